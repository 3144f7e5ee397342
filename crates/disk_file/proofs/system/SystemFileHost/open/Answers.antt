use Rattle.std.proofs.Common.{arith}
use Rattle.std.proofs.lemmas.Grind.{common_steps}
use Rattle.disk_file.proofs.system.SystemFileHost.open.Goals as goal

pub returns-in_err-file : goal.returns-in_err-file
returns-in_err-file g c = grind (arith, common_steps)

pub returns : goal.returns
returns g c = grind (arith, common_steps)

pub returns-in_err-metadata : goal.returns-in_err-metadata
returns-in_err-metadata g c = grind (arith, common_steps)
