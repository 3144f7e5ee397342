use Rattle.std.proofs.Common.{arith}
use Rattle.std.proofs.lemmas.Grind.{common_steps}
use Rattle.run_command.proofs.run.ended_as.Goals as goal

pub returns : goal.returns
returns c = grind (arith, common_steps)
