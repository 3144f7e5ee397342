use Rattle.std.proofs.Common.{◌<◌, ℕ}
use Rattle.table_check.specs.Placed.{placed}
use Rattle.table_check.specs.Suffixes.{StandsBesideWall}
use Rattle.table_check.proofs.resume.first_across_wall.Given as goal

abbrev pub invariant-records : goal.invariant-records
invariant-records l = (i : ℕ) → i < l.rank → StandsBesideWall (placed l.table l.frame) i
