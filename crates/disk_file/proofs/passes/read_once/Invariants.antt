use Rattle.std.specs.Io.KnownBytes.{Keeps}
use Rattle.disk_file.proofs.passes.read_once.Given as goal

-- nothing was read
abbrev pub invariant-calls : goal.invariant-calls
invariant-calls g l = Keeps (g.I.Read.remaining l.initial.reader) (g.I.Read.remaining l.reader)
