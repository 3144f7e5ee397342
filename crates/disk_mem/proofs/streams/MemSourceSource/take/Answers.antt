use Rattle.std.proofs.Common.{arith, ap, sym, ◌∙◌, drop, length-drop, length-append}
use Rattle.std.proofs.lemmas.List.{drop_all}
use Rattle.disk_mem.proofs.Pieces.{piece_first}
use Rattle.disk_mem.proofs.streams.MemSourceSource.take.Goals as goal

pub returns-clause-taken : goal.returns-clause-taken
returns-clause-taken c =
    let is_left = ap (λ s. s.left) (sym c.self.view_is) in
    record {
      first = piece_first _ c.self.inside.bytes.items c.deref.result.now _ _ c.self.inside.at c.min-n.result
          is_left c.deref.ensures.value c.copy_from_slice.ensures.after
          (omega (arith, length-drop c.self.inside.at c.self.inside.bytes.items));
      ended = λ has none. is_left ∙ drop_all c.self.inside.at c.self.inside.bytes.items
          (omega (arith, length-append c.copy_from_slice.new.self (drop c.min-n.result c.args.out.now)));
      none = tt;
    }
