use Rattle.std.proofs.Common.{arith, ap, sym, ◌∙◌, List, ℕ}
use Rattle.std.specs.Prelude.{sum_by}
use Rattle.std.proofs.lemmas.List.{take_all}
use Rattle.segment_layout.proofs.BalanceLaws.{bytes_in}
use Rattle.segment_layout.proofs.BookLaws.{volumes_of_sizes-index}
use Rattle.plain_layout.proofs.settle.volume_of.Goals as goal

pub returns-clause-volume : goal.returns-clause-volume
returns-clause-volume c =
    let sizes = c.args.sizes.now in
    c.sizes.invariant.so_far
    ∙ ap (λ (xs : List ℕ). sum_by (λ size. bytes_in c.args.c size) xs)
    (take_all c.sizes.size-index sizes (omega arith))
    ∙ sym (volumes_of_sizes-index sizes c.args.c)
