use Rattle.std.proofs.Common.{arith}
use Rattle.table_check.proofs.NumberLaws.{start_small}
use Rattle.table_check.proofs.frame.Frame.start.Goals as goal

pub returns-clause-small : goal.returns-clause-small
returns-clause-small c = omega (arith, start_small c.args.self.now.shape c.args.c c.requires.class)
