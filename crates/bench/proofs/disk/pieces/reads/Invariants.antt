use Rattle.std.proofs.Common.{IsTrue, IsFalse}
use Rattle.bench.proofs.disk.pieces.reads.Given as goal

-- the file is open, and tells nothing
abbrev pub invariant-pieces : goal.invariant-pieces
invariant-pieces g l = IsTrue (g.D.Disk.state l.disk).is_ready × IsFalse (g.D.Disk.state l.disk).tells
