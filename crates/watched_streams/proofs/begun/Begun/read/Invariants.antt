-- The first of the bytes were read.
use Rattle.std.proofs.Common.{◌-◌, ◌≤◌, length, take}
use Rattle.watched_streams.specs.Begins.{ReadsAll}
use Rattle.watched_streams.proofs.begun.Begun.read.Given as goal

abbrev pub invariant-bytes : goal.invariant-bytes
invariant-bytes l = (l.at ≤ length l.piece) × ReadsAll (take l.at l.piece) l.fn.self l.self

abbrev pub decreases-bytes : goal.decreases-bytes
decreases-bytes l = length l.piece - l.at
