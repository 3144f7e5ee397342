use Rattle.std.proofs.Common.{arith}
use Rattle.std.proofs.lemmas.Grind.{common_steps}
use Rattle.slot_pair.proofs.format.write_block.Goals as goal

pub returns-in_err-set_len : goal.returns-in_err-set_len
returns-in_err-set_len g c = grind (arith, common_steps)

pub returns-in_err-write_at : goal.returns-in_err-write_at
returns-in_err-write_at g c = grind (arith, common_steps)

pub returns : goal.returns
returns g c = grind (arith, common_steps)
