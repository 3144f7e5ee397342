use Rattle.table_check.proofs.NumberLaws.{grid_small}
use Rattle.file_commands.proofs.map.push_class.Goals as goal

pub taken-requires : goal.taken-requires
taken-requires c = record { small = grid_small c.args.header.now c.requires.ranges c.args.c }
