use Rattle.segment_layout.specs.Layouts.{divisor_of}
use Rattle.layer_rows.specs.Listed.{LaysList}
use Rattle.layer_rows.proofs.flush_phases.lay_some.Given as goal

abbrev pub invariant-lays : goal.invariant-lays
invariant-lays g l = LaysList g.row.C (divisor_of l.layout) l.laying l.shelf.items.items
