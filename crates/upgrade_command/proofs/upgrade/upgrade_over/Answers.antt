-- Where the file is there it is upgraded, and else nothing is put.
use Rattle.served_file.proofs.StepsLaws.{mounted_then, unmounted_so}
use Rattle.upgrade_command.specs.Doing.{IsUpgrade}
use Rattle.disk_face.specs.Devices.{devices}
use Rattle.upgrade_command.proofs.upgrade.upgrade_over.Goals as goal

pub returns-in-Err : goal.returns-in-Err
returns-in-Err g c = unmounted_so g.B.Disk.state c.args.file.now IsUpgrade
    (g.B.Disk.state c.args.bay.now) (g.B.Disk.state c.mount_there.new.bay)
    (g.O.Sink.state c.args.output.now) c.in-Err.why c.mount_there.ensures.frame
    c.mount_there.ensures.cause.later c.in-Err.ensures.absent

pub returns-in-Ok : goal.returns-in-Ok
returns-in-Ok g c = mounted_then g.B.Disk.state c.args.file.now IsUpgrade (g.B.Disk.state c.args.bay.now)
    (g.O.Sink.state c.args.output.now)
    (devices (g.B.Disk.state c.upgrade_from.new.disk) (g.O.Sink.state c.upgrade_from.new.output))
    c.mount_there.new.bay c.upgrade_from.result c.mount_there.ensures.frame c.in-Ok.ensures.there
    (c.in-Ok.ensures.cause.calm (λ is. absurd (cc))) c.upgrade_from.ensures
