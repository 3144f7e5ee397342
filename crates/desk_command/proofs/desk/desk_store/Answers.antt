-- A desk ran to its end, or there was no memory for one.
use Rattle.std.proofs.Common.{inl, refl}
use Rattle.ask_session.specs.Outside.{held, seen_by}
use Rattle.desk_command.proofs.AlwaysLaws.{source_same}
use Rattle.desk_command.proofs.WentLaws.{desk_source, desk_steps}
use Rattle.desk_command.proofs.desk.desk_store.Goals as goal
use Rattle.disk_face.proofs.FrameLaws.{unchanged_itself}

pub returns-in-Ok-clause-steps : goal.returns-in-Ok-clause-steps
returns-in-Ok-clause-steps g c = desk_steps
    (seen_by g.D.Disk.state g.I.Source.state g.O.Sink.state) c.args.store c.in-Ok.desk c.run-end.new.self
    (held c.args.disk.now c.args.input.now c.args.output.now)
    (held c.run-end.new.disk c.run-end.new.input c.run-end.new.output) c.run-end.result c.ended_as.result
    c.in-Ok.ensures.ok c.requires.over.idle c.run-end.ensures c.ended_as.ensures.ended
    c.ended_as.ensures.sound

pub returns-in-Ok-clause-source : goal.returns-in-Ok-clause-source
returns-in-Ok-clause-source g c = desk_source
    (seen_by g.D.Disk.state g.I.Source.state g.O.Sink.state) c.args.store c.in-Ok.desk c.run-end.new.self
    (held c.args.disk.now c.args.input.now c.args.output.now)
    (held c.run-end.new.disk c.run-end.new.input c.run-end.new.output) c.run-end.result c.ended_as.result
    c.in-Ok.ensures.ok c.requires.over.idle c.run-end.ensures c.ended_as.ensures.ended _

pub returns-clause-steps : goal.returns-clause-steps
returns-clause-steps g c = inl (record {
  frame = unchanged_itself (g.D.Disk.state c.args.disk.now) c.requires.ready;
  calm = refl;
  ended = refl;
  nothing = refl;
  unread = refl;
})

pub returns-clause-source : goal.returns-clause-source
returns-clause-source g c = source_same (g.I.Source.state c.args.input.now) _ _ refl (λ is. cc)
