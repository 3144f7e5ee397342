use Rattle.std.proofs.Common.{◌≡◌, Some, rules, refl}
use Rattle.byte_ranges.specs.Ranges.{bytes_at}
use Rattle.command_face.specs.declared.stop.StopReason.TheVariants as stop
use Rattle.file_commands.specs.Getting.{checked}
use Rattle.file_commands.proofs.AnswerLaws.{stopped}
use Rattle.file_commands.proofs.digest.put_small.Goals as goal

pub returns-in_err-map_err-clause-answers : goal.returns-in_err-map_err-clause-answers
returns-in_err-map_err-clause-answers g c = λ told.
    let output = g.O.Sink.state c.args.output.now in
    let all = stopped (λ answer. answer ≡ checked (Some c.args.digest.now)
    (Some (bytes_at (g.D.Disk.state c.args.disk.now).file c.args.at c.args.size))) output output
    stop.Disk refl (λ is. cc) tt in
    search rules
