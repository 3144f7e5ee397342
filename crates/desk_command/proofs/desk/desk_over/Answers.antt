-- Where the file is there the script is done, and else nothing is read or put.
use Rattle.std.proofs.Common.{refl}
use Rattle.disk_face.specs.Devices.{devices}
use Rattle.served_file.proofs.StepsLaws.{mounted_then, unmounted_so}
use Rattle.desk_command.specs.Doing.{IsDesking}
use Rattle.served_file.proofs.AlwaysLaws.{source_unmounted}
use Rattle.desk_command.proofs.AlwaysLaws.{source_same}
use Rattle.desk_command.proofs.desk.desk_over.Goals as goal

pub returns-in-Err-clause-steps : goal.returns-in-Err-clause-steps
returns-in-Err-clause-steps g c = unmounted_so g.B.Disk.state c.args.file.now
    (IsDesking (g.I.Source.state c.args.input.now) (g.I.Source.state c.args.input.now))
    (g.B.Disk.state c.args.bay.now) (g.B.Disk.state c.mount_there.new.bay)
    (g.O.Sink.state c.args.output.now) c.in-Err.why c.mount_there.ensures.frame
    c.mount_there.ensures.cause.later c.in-Err.ensures.absent

pub returns-in-Err-clause-source : goal.returns-in-Err-clause-source
returns-in-Err-clause-source g c = source_same (g.I.Source.state c.args.input.now) _ c.in-Err.why refl
    (source_unmounted c.args.file.now (g.B.Disk.state c.args.bay.now) (g.B.Disk.state c.mount_there.new.bay)
    c.in-Err.why c.in-Err.ensures.absent)

pub returns-in-Ok-clause-steps : goal.returns-in-Ok-clause-steps
returns-in-Ok-clause-steps g c = mounted_then g.B.Disk.state c.args.file.now
    (IsDesking (g.I.Source.state c.args.input.now) (g.I.Source.state c.desk_from.new.input))
    (g.B.Disk.state c.args.bay.now) (g.O.Sink.state c.args.output.now)
    (devices (g.B.Disk.state c.desk_from.new.disk) (g.O.Sink.state c.desk_from.new.output))
    c.mount_there.new.bay c.desk_from.result c.mount_there.ensures.frame c.in-Ok.ensures.there
    (c.in-Ok.ensures.cause.calm (λ is. absurd (cc))) c.desk_from.ensures.steps

pub returns-in-Ok-clause-source : goal.returns-in-Ok-clause-source
returns-in-Ok-clause-source g c = c.desk_from.ensures.source
