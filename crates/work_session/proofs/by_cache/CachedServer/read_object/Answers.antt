use Rattle.std.specs.Prelude.{Err, Result}
use Rattle.std.proofs.Common.{ap, arith, sym, subst}
use Rattle.map_model.specs.Requests as ask
use Rattle.read_cache.specs.Coherence.{IsCoherent}
use Rattle.ask_text.specs.declared.reply.Reply.{Reply}
use Rattle.ask_text.specs.declared.ends.End.{End}
use Rattle.work_session.specs.Servers.{BecomesCached, ServesJob, words_of}
use Rattle.work_session.proofs.CacheLaws.{get_refuses, get_serves}
use Rattle.work_session.proofs.DoesLaws.{can_serve}
use Rattle.work_session.proofs.by_cache.CachedServer.read_object.Goals as goal

pub returns-in-Ok : goal.returns-in-Ok
returns-in-Ok g c =
    let a = g.D.Disk.state c.args.disk.now in
    get_serves c.args.self.now c.get.new.self a (g.D.Disk.state c.get.new.disk)
    (can_serve c.args.self.now.store a c.requires.whole c.requires.sound c.requires.over c.requires.ready
    (g.met.D.Disk.lawful c.args.disk.now))
    c.args.name.now c.in-Ok.ensures.coherent _ _ c.in-Ok.got c.in-Ok.ensures.read c.in-Ok.ensures.list

pub returns-in-Err : goal.returns-in-Err
returns-in-Err g c =
    let a = g.D.Disk.state c.args.disk.now in
    let d = g.D.Disk.state c.get.new.disk in
    subst (λ (x : Result Reply End). ServesJob
    (words_of (λ c. c.store) (λ c d. IsCoherent c.store c.list.pairs d) BecomesCached g.row.C)
    (ask.get c.args.name.now) c.args.self.now c.get.new.self a d x)
    (sym c.answer_of.ensures)
    (get_refuses c.args.self.now c.get.new.self a d
    (can_serve c.args.self.now.store a c.requires.whole c.requires.sound c.requires.over c.requires.ready
    (g.met.D.Disk.lawful c.args.disk.now))
    c.args.name.now c.in-Err.ensures.coherent _ _ c.in-Err.why c.in-Err.ensures.read c.in-Err.ensures.list
    (λ sink. omega (arith, c.in-Err.ensures.read.sink_cause.rose (ap Err sink))))
