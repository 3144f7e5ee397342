use Rattle.std.proofs.Common.{arith}
use Rattle.table_check.proofs.NumberLaws.{taken_small}
use Rattle.table_check.proofs.frame.Frame.taken.Goals as goal

pub returns-clause-small : goal.returns-clause-small
returns-clause-small c = omega (arith, taken_small c.args.self.now.shape c.args.j c.requires.class)
