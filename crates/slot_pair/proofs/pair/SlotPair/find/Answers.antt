use Rattle.std.proofs.Common.{arith}
use Rattle.std.proofs.lemmas.Grind.{common_steps}
use Rattle.slot_pair.proofs.pair.SlotPair.find.Goals as goal

pub returns-in_err-found : goal.returns-in_err-found
returns-in_err-found g c = grind (arith, common_steps)

pub returns-in_err-read_chosen_header : goal.returns-in_err-read_chosen_header
returns-in_err-read_chosen_header g c = grind (arith, common_steps)

pub returns : goal.returns
returns g c = grind (arith, common_steps)
