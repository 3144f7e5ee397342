use Rattle.std.specs.Prelude.{◌-◌, length}
use Rattle.data_area.specs.Copies.{CopiedSoFar}
use Rattle.data_area.proofs.copy.copy.Given as goal

abbrev pub invariant-pieces : goal.invariant-pieces
invariant-pieces g l =
    CopiedSoFar l.from l.to l.size (length l.fn.buf) l.done (g.D.Disk.state l.fn.disk)
    (g.D.Disk.state l.disk)

abbrev pub decreases-pieces : goal.decreases-pieces
decreases-pieces g l = l.size - l.done
