use Rattle.plain_layout.specs.Changes.{IsReshaped}
use Rattle.plain_layout.proofs.ChangeLemmas.{next_of}
use Rattle.plain_layout.proofs.book.Book.next.Goals as goal

pub returns : goal.returns
returns c =
    let self = c.args.self.now in
    let e = c.reshaped.ensures in
    let numbers : IsReshaped self.k self.caps self.used c.args.items.now c.args.after.now c.reshaped.result
    = record {
      quiet = e.quiet;
      boundary = e.boundary;
      capacities = e.caps;
      used = e.used;
      divisor = e.divisor;
      last = e.last;
    } in
    record {
      numbers = numbers;
      book = next_of c.reshaped.result self.k self.caps self.used c.args.items.now c.args.after.now numbers;
    }
