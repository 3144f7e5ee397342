use Rattle.std.proofs.Common.{arith, ap, ◌∙◌, ◌≤◌, slice_index, slice_set}
use Rattle.size_class.specs.Classes.{zero_row}
use Rattle.flush_model.proofs.SumLaws.{volume_nothing, volume_one}
use Rattle.flush_plan.proofs.counts.volume_of.Goals as goal

pub returns-then-size-gt0 : goal.returns-then-size-gt0
returns-then-size-gt0 g c = λ x below.
    let size = c.args.size in
    let some : 1 ≤ size = omega (arith, c.if-size-gt0.true) in
    ap (λ cells. slice_index cells x) c.set.ensures
    ∙ ap (λ cells. slice_index (slice_set cells c.class_of.result size) x) c.zero-volumes.ensures
    ∙ ap (λ class. slice_index (slice_set zero_row class size) x) c.class_of.ensures.same
    ∙ volume_one g.row.C size c.requires.fits (c.requires.class some) x below

pub returns-else-size-gt0 : goal.returns-else-size-gt0
returns-else-size-gt0 g c = λ x below. ap (λ cells. slice_index cells x) c.zero-volumes.ensures
    ∙ volume_nothing c.args.size x (omega (arith, c.if-size-gt0.false))
