use Rattle.std.proofs.Common.{arith}
use Rattle.std.proofs.lemmas.Grind.{common_steps}
use Rattle.store_core.proofs.store.Store.find.Goals as goal

pub returns-in_err-name : goal.returns-in_err-name
returns-in_err-name g c = grind (arith, common_steps)

pub returns-in-Now : goal.returns-in-Now
returns-in-Now g c = grind (arith, common_steps)

pub returns-in-Kept : goal.returns-in-Kept
returns-in-Kept g c = grind (arith, common_steps)
