-- Where the file isn't there, or the disk failed, nothing is put.
use Rattle.std.proofs.Common.{rules}
use Rattle.command_face.proofs.MountLaws.{answers}
use Rattle.file_commands.specs.Texts.{IsMapped}
use Rattle.file_commands.proofs.command.map_from.Goals as goal

pub returns-in_err-mount_there-clause-answers : goal.returns-in_err-mount_there-clause-answers
returns-in_err-mount_there-clause-answers g c = λ told.
    let all = answers c.args.file.now (g.B.Disk.state c.args.bay.now)
    (g.B.Disk.state c.mount_there.new.bay) c.mount_there.ensures.frame c.mount_there.ensures.cause.later
    (IsMapped (g.B.Disk.state c.args.bay.now).file) (g.O.Sink.state c.args.output.now)
    c.in_err-mount_there.field-0.0 c.in_err-mount_there.ensures.absent in
    search rules
