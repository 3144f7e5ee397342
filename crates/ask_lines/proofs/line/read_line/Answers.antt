use Rattle.std.proofs.Common.{arith}
use Rattle.std.proofs.lemmas.Grind.{common_steps}
use Rattle.ask_lines.proofs.line.read_line.Goals as goal

pub returns : goal.returns
returns g c = grind (arith, common_steps)

pub returns-in-None : goal.returns-in-None
returns-in-None g c = grind (arith, common_steps)

pub returns-in-Some-eq10 : goal.returns-in-Some-eq10
returns-in-Some-eq10 g c = grind (arith, common_steps)

pub returns-in_err-next : goal.returns-in_err-next
returns-in_err-next g c = grind (arith, common_steps)
