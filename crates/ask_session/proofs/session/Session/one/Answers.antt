use Rattle.std.proofs.Common.{arith}
use Rattle.std.proofs.lemmas.Grind.{common_steps}
use Rattle.ask_session.proofs.session.Session.one.Goals as goal

pub returns-in-Err : goal.returns-in-Err
returns-in-Err g c = grind (arith, common_steps)

pub returns-in-Err-serve : goal.returns-in-Err-serve
returns-in-Err-serve g c = grind (arith, common_steps)

pub returns-in-Ok-serve : goal.returns-in-Ok-serve
returns-in-Ok-serve g c = grind (arith, common_steps)
