use Rattle.std.proofs.Common.{◌≡◌, ◌+◌, ◌≤◌, length, take, IsTrue, IsFalse}
use Rattle.byte_ranges.specs.Ranges.{overwritten}
use Rattle.disk_file.specs.Parts.{WritesPart}
use Rattle.disk_file.proofs.positions.write_whole.Given as goal

-- The first bytes were written, and where no call fails each has taken one.
abbrev pub invariant-calls : goal.invariant-calls
invariant-calls g l = record {
  within : l.written ≤ length l.bytes;
  marks : g.H.Host.marks l.host ≡ g.H.Host.marks l.initial.host;
  part : WritesPart l.pos (length l.bytes) (g.H.Host.state l.initial.host) (g.H.Host.state l.host);
  bytes : IsTrue (g.H.Host.state l.initial.host).tells
      → l.pos + length l.bytes ≤ length (g.H.Host.state l.initial.host).file
      → (g.H.Host.state l.host).file ≡ overwritten (g.H.Host.state l.initial.host).file l.pos
      (take l.written l.bytes);
  serves : IsFalse (g.H.Host.marks l.initial.host).may_fail → IsTrue (g.H.Host.state l.initial.host).tells
      → l.pos + length l.bytes ≤ length (g.H.Host.state l.initial.host).file → l.call ≤ l.written;
}
