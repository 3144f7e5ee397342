use Rattle.std.proofs.Common.{arith}
use Rattle.std.proofs.lemmas.Grind.{common_steps}
use Rattle.store_core.proofs.store.Store.keep.Goals as goal

pub returns-then-is_broken : goal.returns-then-is_broken
returns-then-is_broken g c = grind (arith, common_steps)

pub returns-then-is_worn : goal.returns-then-is_worn
returns-then-is_worn g c = grind (arith, common_steps)

pub returns : goal.returns
returns g c = grind (arith, common_steps)
