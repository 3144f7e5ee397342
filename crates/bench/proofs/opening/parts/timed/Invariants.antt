use Rattle.std.proofs.Common.{IsTrue}
use Rattle.bench.proofs.opening.parts.timed.Given as goal

-- the file is open
abbrev pub invariant-loop : goal.invariant-loop
invariant-loop g l = IsTrue (g.D.Disk.state l.disk).is_ready
