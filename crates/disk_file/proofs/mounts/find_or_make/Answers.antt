use Rattle.std.proofs.Common.{arith}
use Rattle.std.proofs.lemmas.Grind.{common_steps}
use Rattle.disk_file.proofs.mounts.find_or_make.Goals as goal

pub returns-in_err-take-in-Ok-File : goal.returns-in_err-take-in-Ok-File
returns-in_err-take-in-Ok-File g c = grind (arith, common_steps)

pub returns-in_err-make_new-in-Err-3 : goal.returns-in_err-make_new-in-Err-3
returns-in_err-make_new-in-Err-3 g c = grind (arith, common_steps)

pub returns-in_ok-take-in-Ok-File : goal.returns-in_ok-take-in-Ok-File
returns-in_ok-take-in-Ok-File g c = grind (arith, common_steps)

pub returns-in-Ok : goal.returns-in-Ok
returns-in-Ok g c = grind (arith, common_steps)

pub returns-in-Err : goal.returns-in-Err
returns-in-Err g c = grind (arith, common_steps)

pub returns-in-Err-2 : goal.returns-in-Err-2
returns-in-Err-2 g c = grind (arith, common_steps)

pub returns-in_ok-make_new-in-Err-3 : goal.returns-in_ok-make_new-in-Err-3
returns-in_ok-make_new-in-Err-3 g c = grind (arith, common_steps)
