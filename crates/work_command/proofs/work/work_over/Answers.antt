-- Where the file is there jobs are done over it, and else nothing is put.
use Rattle.work_command.specs.Asked.{jobs_numbered}
use Rattle.work_command.proofs.StepsLemmas.{steps_mounted, steps_unmounted}
use Rattle.work_command.proofs.work.work_over.Goals as goal

pub returns-in-Err : goal.returns-in-Err
returns-in-Err g c =
    steps_unmounted g.B.Disk.state c.args.file.now
    (jobs_numbered c.args.number c.args.count c.args.entries) (g.B.Disk.state c.args.bay.now)
    (g.B.Disk.state c.mount_there.new.bay) (g.O.Sink.state c.args.output.now) c.in-Err.why
    c.mount_there.ensures.frame c.mount_there.ensures.cause.later c.in-Err.ensures.absent

pub returns-in-Ok : goal.returns-in-Ok
returns-in-Ok g c =
    steps_mounted g.B.Disk.state c.args.file.now
    (jobs_numbered c.args.number c.args.count c.args.entries) (g.B.Disk.state c.args.bay.now)
    (g.B.Disk.state c.work_from.new.disk) (g.O.Sink.state c.args.output.now) c.mount_there.new.bay
    (g.O.Sink.state c.work_from.new.output) c.work_from.result c.mount_there.ensures.frame
    c.in-Ok.ensures.there (c.in-Ok.ensures.cause.calm (λ is. absurd (cc))) c.work_from.ensures
