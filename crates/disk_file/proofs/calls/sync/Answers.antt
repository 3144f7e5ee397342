use Rattle.std.proofs.Common.{arith}
use Rattle.std.proofs.lemmas.Grind.{common_steps}
use Rattle.disk_file.proofs.calls.sync.Goals as goal

pub returns-then-has_lost : goal.returns-then-has_lost
returns-then-has_lost g c = grind (arith, common_steps)

pub returns : goal.returns
returns g c = grind (arith, common_steps)
