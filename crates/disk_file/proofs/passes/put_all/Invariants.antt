use Rattle.std.proofs.Common.{◌≤◌, length, take}
use Rattle.std.specs.Io.KnownBytes.{Appends}
use Rattle.disk_file.proofs.passes.put_all.Given as goal

-- a front of the bytes was written
abbrev pub invariant-calls : goal.invariant-calls
invariant-calls g l = (l.done ≤ length l.bytes)
    × Appends (g.O.Write.contents l.initial.writer) (g.O.Write.contents l.writer) (take l.done l.bytes)
