use Rattle.ask_session.specs.Outside.{held, seen_by}
use Rattle.run_command.proofs.StepsLemmas.{steps_session, steps_unbegun}
use Rattle.run_command.proofs.run.serve_store.Goals as goal

pub returns-in-Ok : goal.returns-in-Ok
returns-in-Ok g c = λ first opening.
    steps_session (seen_by g.D.Disk.state g.I.Source.state g.O.Sink.state) first c.args.disk.now
    (held c.run-end.new.disk c.run-end.new.input c.run-end.new.output) c.args.input.now c.args.output.now
    c.args.store c.in-Ok.session c.run-end.new.self c.run-end.result c.args.turn c.ended_as.result opening
    c.in-Ok.ensures.ok c.requires.turn
    c.run-end.ensures c.ended_as.ensures.sound c.ended_as.ensures.ended

pub returns : goal.returns
returns g c = λ first opening.
    steps_unbegun (seen_by g.D.Disk.state g.I.Source.state g.O.Sink.state) first c.args.disk.now
    c.args.input.now c.args.output.now c.args.store c.args.turn c.unserved.result opening c.requires.turn
    c.unserved.ensures
