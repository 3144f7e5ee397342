use Rattle.segment_layout.specs.Layouts.{divisor_of}
use Rattle.layer_rows.specs.Listed.{LiftsList}
use Rattle.layer_rows.proofs.flush_phases.lift_all.Given as goal

abbrev pub invariant-lifts : goal.invariant-lifts
invariant-lifts g l = LiftsList g.row.C (divisor_of l.layout) l.lifting l.shelf.items.items
