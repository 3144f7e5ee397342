use Rattle.std.proofs.Common.{arith, sym, subst}
use Rattle.std.proofs.lemmas.Grind.{common_steps}
use Rattle.slot_codec.specs.Reading.{is_logged}
use Rattle.command_face.specs.Refusing.{IsNotRead}
use Rattle.file_commands.specs.Getting.{StopsAs}
use Rattle.file_commands.proofs.AnswerLaws.{stops_unread}
use Rattle.file_commands.proofs.load.load.Goals as goal

pub returns-in-Err-clause-stopped : goal.returns-in-Err-clause-stopped
returns-in-Err-clause-stopped g c = λ told.
    let file = (g.D.Disk.state c.args.disk.now).file in
    subst (StopsAs (IsNotRead file)) (sym c.stop_of.ensures.same)
    (stops_unread (is_logged file) file c.in-Err.fault (c.in-Err.ensures.refused told))

pub returns-in-Ok : goal.returns-in-Ok
returns-in-Ok g c = grind (arith, common_steps)
