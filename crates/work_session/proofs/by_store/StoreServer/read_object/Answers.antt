use Rattle.std.proofs.Common.{ap, arith, sym, subst}
use Rattle.std.specs.Prelude.{Err, Ok, Result}
use Rattle.map_model.specs.Requests as ask
use Rattle.store_model.specs.Connection.{StoreValue, state_of}
use Rattle.ask_text.specs.declared.reply.Reply.{Reply}
use Rattle.ask_text.specs.declared.reply.Reply.TheVariants as head
use Rattle.ask_text.specs.declared.ends.End.{End}
use Rattle.work_session.specs.Jobs.{Does}
use Rattle.work_session.proofs.DoesLaws.{can_serve, get_gives, get_stops}
use Rattle.work_session.proofs.ServingLaws.{store_serves}
use Rattle.work_session.proofs.by_store.StoreServer.read_object.Goals as goal

pub returns-in-Ok : goal.returns-in-Ok
returns-in-Ok g c = store_serves (
    subst (λ (x : StoreValue). Does g.row.C (ask.get c.args.name.now) c.args.self.now x
    (g.D.Disk.state c.args.disk.now) (g.D.Disk.state c.get.new.disk) (Ok (head.Data c.in-Ok.size)))
    (sym c.in-Ok.ensures.store)
    (get_gives c.args.self.now (g.D.Disk.state c.args.disk.now)
    (g.D.Disk.state c.get.new.disk) c.args.name.now
    (can_serve c.args.self.now (g.D.Disk.state c.args.disk.now) c.requires.whole c.requires.sound
    c.requires.over c.requires.ready (g.met.D.Disk.lawful c.args.disk.now))
    c.in-Ok.ensures.frame (state_of c.get.new.self (g.D.Disk.state c.get.new.disk).file)
    c.in-Ok.size c.in-Ok.ensures.answer
    (c.in-Ok.ensures.disk_cause.calm (λ is. absurd (cc)))
    (λ told. c.in-Ok.ensures.step c.requires.whole told)))

pub returns-in-Err : goal.returns-in-Err
returns-in-Err g c = store_serves (
    subst (λ (x : StoreValue). Does g.row.C (ask.get c.args.name.now) c.args.self.now x
    (g.D.Disk.state c.args.disk.now) (g.D.Disk.state c.get.new.disk) c.answer_of.result)
    (sym c.in-Err.ensures.store)
    (subst (λ (x : Result Reply End). Does g.row.C (ask.get c.args.name.now) c.args.self.now c.args.self.now
    (g.D.Disk.state c.args.disk.now) (g.D.Disk.state c.get.new.disk) x)
    (sym c.answer_of.ensures)
    (get_stops c.args.self.now (g.D.Disk.state c.args.disk.now)
    (g.D.Disk.state c.get.new.disk) c.args.name.now
    (can_serve c.args.self.now (g.D.Disk.state c.args.disk.now) c.requires.whole c.requires.sound
    c.requires.over c.requires.ready (g.met.D.Disk.lawful c.args.disk.now))
    c.in-Err.ensures.frame (state_of c.get.new.self (g.D.Disk.state c.get.new.disk).file)
    c.in-Err.why c.in-Err.ensures.answer c.in-Err.ensures.disk_cause
    (λ sink. omega (arith, c.in-Err.ensures.sink_cause.rose (ap Err sink)))
    (λ told. c.in-Err.ensures.step c.requires.whole told))))
