use Rattle.std.proofs.Common.{◌≡◌, ◌+◌, ◌≤◌, length, take, IsTrue, IsFalse}
use Rattle.byte_ranges.specs.Ranges.{bytes_at}
use Rattle.disk_file.proofs.positions.fill.Given as goal

-- The first bytes are there, and where no call fails each has given one.
abbrev pub invariant-calls : goal.invariant-calls
invariant-calls g l = record {
  within : l.filled ≤ length l.out;
  bytes : IsTrue (g.H.Host.state l.host).tells
      → take l.filled l.out ≡ bytes_at (g.H.Host.state l.host).file l.pos l.filled;
  serves : IsFalse (g.H.Host.marks l.host).may_fail
      → l.pos + length l.initial.out ≤ length (g.H.Host.state l.host).file → l.call ≤ l.filled;
}
