use Rattle.std.proofs.Common.{arith}
use Rattle.std.proofs.lemmas.Grind.{common_steps}
use Rattle.store_core.proofs.open.cut_to.Goals as goal

pub returns : goal.returns
returns g c = grind (arith, common_steps)

pub returns-in_err-length_of : goal.returns-in_err-length_of
returns-in_err-length_of g c = grind (arith, common_steps)

pub returns-in_err-set_len : goal.returns-in_err-set_len
returns-in_err-set_len g c = grind (arith, common_steps)

pub returns-then-branch-len : goal.returns-then-branch-len
returns-then-branch-len g c = grind (arith, common_steps)
