use Rattle.std.proofs.Common.{◌≡◌, ◌+◌, ◌-◌, ◌≤◌, slice_index}
use Rattle.size_class.specs.Rows.{cells_of}
use Rattle.flush_model.specs.Plans.{segments_length}
use Rattle.flush_model.specs.Segments.{ArePlaces}
use Rattle.flush_model.proofs.segments.places_of.Given as goal

abbrev pub invariant-classes : goal.invariant-classes
invariant-classes g l = (l.b ≤ l.class) × (l.class ≤ g.row.C)
    × (l.at ≡ l.start + segments_length l.k (slice_index (cells_of l.volumes)) l.b l.class)
    × ArePlaces l.k l.start l.b (slice_index (cells_of l.volumes)) l.class (cells_of l.places)

abbrev pub decreases-classes : goal.decreases-classes
decreases-classes g l = g.row.C - l.class
