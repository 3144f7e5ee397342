use Rattle.std.proofs.Common.{ℕ, subst, sym}
use Rattle.std.specs.Prelude.{Option}
use Rattle.disk_face.specs.Devices.{devices}
use Rattle.work_command.specs.Asked.{jobs_numbered}
use Rattle.work_command.specs.Steps.{OpenWorkSteps}
use Rattle.work_command.proofs.work.work_from.Goals as goal

pub returns-in-None : goal.returns-in-None
returns-in-None g c = subst (λ (o : Option ℕ). OpenWorkSteps g.D.Disk.state
    (jobs_numbered c.args.number c.args.count o)
    (devices (g.D.Disk.state c.args.disk.now) (g.O.Sink.state c.args.output.now))
    (devices (g.D.Disk.state c.work_store.new.disk) (g.O.Sink.state c.work_store.new.output))
    c.work_store.result)
    (sym c.in-None.is) (c.work_store.ensures c.args.disk.now c.in-Ok.ensures)

pub returns-in-Some : goal.returns-in-Some
returns-in-Some g c = subst (λ (o : Option ℕ). OpenWorkSteps g.D.Disk.state
    (jobs_numbered c.args.number c.args.count o)
    (devices (g.D.Disk.state c.args.disk.now) (g.O.Sink.state c.args.output.now))
    (devices (g.D.Disk.state c.work_cached.new.disk) (g.O.Sink.state c.work_cached.new.output))
    c.work_cached.result)
    (sym c.in-Some.is) (c.work_cached.ensures c.args.disk.now c.in-Ok.ensures)
