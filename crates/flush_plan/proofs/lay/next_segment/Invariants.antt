use Rattle.std.proofs.Common.{◌≡◌, ◌-◌, ◌<◌, ◌≤◌, ℕ, slice_index}
use Rattle.size_class.specs.Rows.{cells_of}
use Rattle.flush_plan.proofs.lay.next_segment.Given as goal

abbrev pub invariant-classes : goal.invariant-classes
invariant-classes g l = (l.from ≤ l.class) × (l.class ≤ g.row.C)
    × ((c : ℕ) → l.from ≤ c → c < l.class → slice_index (cells_of l.volumes) c ≡ 0)

abbrev pub decreases-classes : goal.decreases-classes
decreases-classes g l = g.row.C - l.class
