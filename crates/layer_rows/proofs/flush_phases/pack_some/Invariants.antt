use Rattle.segment_layout.specs.Layouts.{divisor_of}
use Rattle.layer_rows.specs.Listed.{PacksList}
use Rattle.layer_rows.proofs.flush_phases.pack_some.Given as goal

abbrev pub invariant-packs : goal.invariant-packs
invariant-packs g l = PacksList g.row.C (divisor_of l.layout) l.packing l.shelf.items.items
