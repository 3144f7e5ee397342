use Rattle.std.proofs.Common.{◌≡◌, ◌-◌, ◌≤◌}
use Rattle.size_class.specs.Rows.{cells_of}
use Rattle.segment_layout.specs.Layouts.{divisor_of, caps_of}
use Rattle.segment_layout.specs.Shapes.{start_of}
use Rattle.flush_model.specs.Segments.{AreStarts}
use Rattle.flush_model.proofs.segments.starts_of.Given as goal

abbrev pub invariant-classes : goal.invariant-classes
invariant-classes g l = (l.class ≤ g.row.C)
    × (l.at ≡ start_of (divisor_of l.layout) (caps_of l.layout) l.class)
    × AreStarts l.class (divisor_of l.layout) (caps_of l.layout) (cells_of l.starts)

abbrev pub decreases-classes : goal.decreases-classes
decreases-classes g l = g.row.C - l.class
