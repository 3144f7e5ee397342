use Rattle.std.proofs.Common.{arith}
use Rattle.std.proofs.lemmas.Grind.{common_steps}
use Rattle.disk_file.proofs.mounts.name_if_empty.Goals as goal

pub returns-in_err-length : goal.returns-in_err-length
returns-in_err-length g c = grind (arith, common_steps)

pub returns-in_err-map_err : goal.returns-in_err-map_err
returns-in_err-map_err g c = grind (arith, common_steps)

pub returns-in_ok-map_err : goal.returns-in_ok-map_err
returns-in_ok-map_err g c = grind (arith, common_steps)

pub returns-else-length-eq0 : goal.returns-else-length-eq0
returns-else-length-eq0 g c = grind (arith, common_steps)
