use Rattle.std.proofs.Common.{arith}
use Rattle.flush_run.specs.Calls.{row_rise}
use Rattle.segment_layout.proofs.StepLaws.{sum_below_next}
use Rattle.segment_layout.proofs.SumLaws.{sum_below_zero}
use Rattle.store_core.proofs.facts.less_risen.Goals as goal

pub classes-init : goal.classes-init
classes-init g c =
    omega (
      arith,
      sum_below_zero 0 (row_rise c.cells-old.result c.cells-new.result) (λ i low. omega (arith, low)),
    )

pub classes-preserved : goal.classes-preserved
classes-preserved g c = omega (
  arith,
  c.classes.invariant,
  c.saturating_sub.ensures,
  c.saturating_sub-left.ensures,
  sum_below_next c.classes.c (row_rise c.cells-old.result c.cells-new.result),
)
