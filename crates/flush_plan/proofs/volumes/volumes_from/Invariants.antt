use Rattle.std.proofs.Common.{◌-◌, ◌≤◌}
use Rattle.size_class.specs.Rows.{cells_of}
use Rattle.flush_model.specs.Segments.{AreVolumes}
use Rattle.flush_plan.specs.Shelves.{from_place}
use Rattle.flush_plan.proofs.volumes.volumes_from.Given as goal

abbrev pub invariant-ranks : goal.invariant-ranks
invariant-ranks g l = (l.first ≤ l.rank)
    × AreVolumes g.row.C (from_place l.start (g.S.Shelf.items l.shelf)) (l.rank - l.first)
    (cells_of l.volumes)

abbrev pub decreases-ranks : goal.decreases-ranks
decreases-ranks g l = l.count - l.rank
