use Rattle.std.proofs.Common.{arith}
use Rattle.std.proofs.lemmas.Grind.{common_steps}
use Rattle.slot_pair.proofs.save.close_other.Goals as goal

pub returns-else-found : goal.returns-else-found
returns-else-found g c = grind (arith, common_steps)

pub returns-then-found : goal.returns-then-found
returns-then-found g c = grind (arith, common_steps)
