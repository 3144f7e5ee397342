use Rattle.std.proofs.Common.{arith}
use Rattle.std.proofs.lemmas.Grind.{common_steps}
use Rattle.disk_file.proofs.mounts.take.Goals as goal

pub returns-in_err-open-in-Changing : goal.returns-in_err-open-in-Changing
returns-in_err-open-in-Changing g c = grind (arith, common_steps)

pub returns-in_err-settle-in-Changing : goal.returns-in_err-settle-in-Changing
returns-in_err-settle-in-Changing g c = grind (arith, common_steps)

pub returns-in-Reading : goal.returns-in-Reading
returns-in-Reading g c = grind (arith, common_steps)

pub returns-in_ok-settle-in-Changing : goal.returns-in_ok-settle-in-Changing
returns-in_ok-settle-in-Changing g c = grind (arith, common_steps)
