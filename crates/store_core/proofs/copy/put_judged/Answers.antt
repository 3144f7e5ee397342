use Rattle.std.proofs.Common.{arith}
use Rattle.std.proofs.lemmas.Grind.{common_steps}
use Rattle.store_core.proofs.copy.put_judged.Goals as goal

pub returns-then-size-buf : goal.returns-then-size-buf
returns-then-size-buf g c = grind (arith, common_steps)

pub returns-in_err-judge_at : goal.returns-in_err-judge_at
returns-in_err-judge_at g c = grind (arith, common_steps)

pub returns : goal.returns
returns g c = grind (arith, common_steps)
