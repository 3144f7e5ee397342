use Rattle.std.proofs.Common.{arith}
use Rattle.std.proofs.lemmas.Grind.{common_steps}
use Rattle.disk_file.proofs.mounts.open.Goals as goal

pub returns-in_err-map_err : goal.returns-in_err-map_err
returns-in_err-map_err g c = grind (arith, common_steps)

pub returns-in_err-kind : goal.returns-in_err-kind
returns-in_err-kind g c = grind (arith, common_steps)

pub returns-then-ne : goal.returns-then-ne
returns-then-ne g c = grind (arith, common_steps)

pub returns : goal.returns
returns g c = grind (arith, common_steps)
