use Rattle.std.proofs.Common.{arith}
use Rattle.std.proofs.lemmas.Grind.{common_steps}
use Rattle.slot_pair.proofs.append.write_text.Goals as goal

pub returns : goal.returns
returns g c = grind (arith, common_steps)
