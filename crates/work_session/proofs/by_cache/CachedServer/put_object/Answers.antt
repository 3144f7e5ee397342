use Rattle.std.specs.Prelude.{Result}
use Rattle.std.proofs.Common.{◌∙◌, sym, subst}
use Rattle.store_model.specs.Quiet.{put_of}
use Rattle.map_model.specs.Requests as ask
use Rattle.read_cache.specs.Coherence.{IsCoherent}
use Rattle.ask_text.specs.declared.reply.Reply.{Reply}
use Rattle.ask_text.specs.declared.ends.End.{End}
use Rattle.work_session.specs.Servers.{BecomesCached, ServesJob, words_of}
use Rattle.work_session.proofs.CacheLaws.{change_serves}
use Rattle.work_session.proofs.DoesLaws.{can_serve}
use Rattle.work_session.proofs.DoneLaws.{put_short}
use Rattle.work_session.proofs.by_cache.CachedServer.put_object.Goals as goal

pub returns : goal.returns
returns g c =
    let a = g.D.Disk.state c.args.disk.now in
    let d = g.D.Disk.state c.put-answer.new.disk in
    let change = put_of c.args.name.now c.args.object.now in
    subst (λ (x : Result Reply End). ServesJob
    (words_of (λ c. c.store) (λ c d. IsCoherent c.store c.list.pairs d) BecomesCached g.row.C)
    (ask.change change) c.args.self.now c.put-answer.new.self a d x)
    (sym c.answer_change.ensures)
    (change_serves c.args.self.now c.put-answer.new.self a d
    (can_serve c.args.self.now.store a c.requires.whole c.requires.sound c.requires.over c.requires.ready
    (g.met.D.Disk.lawful c.args.disk.now))
    c.put-answer.ensures.coherent
    (λ whole. c.is_broken.ensures.sound (c.is_broken.ensures.same ∙ whole))
    change c.put-answer.result (put_short c.args.name.now c.args.object.now c.requires.short)
    c.put-answer.ensures.change c.put-answer.ensures.step
    c.put-answer.ensures.list)
