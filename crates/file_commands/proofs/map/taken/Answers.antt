use Rattle.std.proofs.Common.{arith}
use Rattle.table_check.proofs.NumberLaws.{sum-small}
use Rattle.file_commands.proofs.map.taken.Goals as goal

pub sum_of-requires : goal.sum_of-requires
sum_of-requires c = record {
  fits = omega (arith, sum-small c.args.cells.now (omega arith) c.requires.small);
}
