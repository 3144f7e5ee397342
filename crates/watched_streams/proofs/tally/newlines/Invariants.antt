-- So many newlines are behind what is left.
use Rattle.std.proofs.Common.{◌≡◌, ◌≤◌, ◌+◌, length, drop}
use Rattle.watched_streams.specs.Tallies.{lines_in}
use Rattle.watched_streams.proofs.tally.newlines.Given as goal

abbrev pub invariant-bytes : goal.invariant-bytes
invariant-bytes l = (l.at ≤ length l.bytes) × (l.found + l.at ≤ length l.bytes)
    × (l.found ≡ lines_in (drop l.at l.bytes))

abbrev pub decreases-bytes : goal.decreases-bytes
decreases-bytes l = l.at
