use Rattle.std.proofs.Common.{take}
use Rattle.extent_table.specs.Extents.{records_of}
use Rattle.table_check.proofs.LiveLaws.{VolumesSoFar}
use Rattle.table_check.proofs.room.volumes_of.Given as goal

abbrev pub invariant-records : goal.invariant-records
invariant-records l = VolumesSoFar (take l.rank (records_of l.table.now)) l.volumes
