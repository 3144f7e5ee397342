use Rattle.desk_core.proofs.StepLaws.{step_failed, step_goes}
use Rattle.desk_core.proofs.stepping.go_on.Goals as goal

pub returns-in-Ok-clause-steps : goal.returns-in-Ok-clause-steps
returns-in-Ok-clause-steps g c =
    step_goes c.args.served.now.session c.args.served.now.store c.step.new.self
    (g.D.Disk.state c.args.disk.now) (g.D.Disk.state c.step.new.disk) c.requires.half
    c.in-Ok.progress c.in-Ok.ensures

pub returns-in-Err-clause-steps : goal.returns-in-Err-clause-steps
returns-in-Err-clause-steps g c =
    step_failed c.args.served.now.session c.args.served.now.store c.step.new.self
    (g.D.Disk.state c.args.disk.now) (g.D.Disk.state c.step.new.disk) c.requires.half
    c.in-Err.field-0 c.in-Err.ensures
