use Rattle.std.proofs.Common.{arith}
use Rattle.std.proofs.lemmas.Grind.{common_steps}
use Rattle.file_commands.proofs.lines.make_room.Goals as goal

pub returns-else-len : goal.returns-else-len
returns-else-len g c = grind (arith, common_steps)

pub returns-in_err-put_whole : goal.returns-in_err-put_whole
returns-in_err-put_whole g c = grind (arith, common_steps)

pub returns-in_ok-put_whole : goal.returns-in_ok-put_whole
returns-in_ok-put_whole g c = grind (arith, common_steps)
