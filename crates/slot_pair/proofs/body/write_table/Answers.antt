use Rattle.std.proofs.Common.{arith}
use Rattle.std.proofs.lemmas.Grind.{common_steps}
use Rattle.slot_pair.proofs.body.write_table.Goals as goal

pub returns : goal.returns
returns g c = grind (arith, common_steps)

pub returns-in_err-put_table : goal.returns-in_err-put_table
returns-in_err-put_table g c = grind (arith, common_steps)
