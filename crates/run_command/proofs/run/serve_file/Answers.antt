-- Where the file is there a session over it goes on, and else no stream is called.
use Rattle.ask_session.specs.Outside.{held, seen_by}
use Rattle.run_command.proofs.StepsLemmas.{steps_served, steps_unmounted}
use Rattle.run_command.proofs.run.serve_file.Goals as goal

pub returns-in-Err : goal.returns-in-Err
returns-in-Err g c =
    steps_unmounted (seen_by g.B.Disk.state g.I.Source.state g.O.Sink.state) c.args.file.now c.args.bay.now
    c.mount_there.new.bay c.args.input.now c.args.output.now c.in-Err.why c.unserved.result
    c.mount_there.ensures.frame c.mount_there.ensures.cause.later c.in-Err.ensures.absent c.unserved.ensures

pub returns-in-Ok : goal.returns-in-Ok
returns-in-Ok g c =
    steps_served (seen_by g.B.Disk.state g.I.Source.state g.O.Sink.state) c.args.file.now
    (held c.args.bay.now c.args.input.now c.args.output.now)
    (held c.serve_from.new.disk c.serve_from.new.input c.serve_from.new.output)
    c.mount_there.new.bay c.serve_from.result c.mount_there.ensures.frame c.in-Ok.ensures.there
    (c.in-Ok.ensures.cause.calm (λ is. absurd (cc))) c.serve_from.ensures
