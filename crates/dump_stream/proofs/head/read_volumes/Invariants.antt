use Rattle.size_class.specs.Rows.{cells_of}
use Rattle.dump_stream.specs.Heads.{ReadsVolumes}
use Rattle.dump_stream.proofs.head.read_volumes.Given as goal

abbrev pub invariant-classes : goal.invariant-classes
invariant-classes g l = ReadsVolumes g.row.C l.count l.text l.c l.at (cells_of l.volumes)
