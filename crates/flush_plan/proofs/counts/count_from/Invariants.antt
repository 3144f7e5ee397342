use Rattle.std.proofs.Common.{◌-◌, ◌≤◌}
use Rattle.size_class.specs.Rows.{cells_of}
use Rattle.segment_layout.specs.Shapes.{start_of}
use Rattle.segment_layout.specs.Layouts.{divisor_of, caps_of}
use Rattle.flush_model.proofs.SumLaws.{AreSums}
use Rattle.flush_plan.specs.Shelves.{from_place}
use Rattle.flush_plan.proofs.counts.count_from.Given as goal

abbrev pub invariant-ranks : goal.invariant-ranks
invariant-ranks g l = (l.first ≤ l.rank)
    × AreSums g.row.C (divisor_of l.layout) (caps_of l.layout)
    (from_place (start_of (divisor_of l.layout) (caps_of l.layout) l.b) (g.S.Shelf.items l.shelf)) l.pending
    (l.rank - l.first) (cells_of l.volumes) l.largest l.in_payload l.in_buffers

abbrev pub decreases-ranks : goal.decreases-ranks
decreases-ranks g l = l.len - l.rank
