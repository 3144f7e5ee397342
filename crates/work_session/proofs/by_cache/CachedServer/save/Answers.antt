use Rattle.std.specs.Prelude.{Result}
use Rattle.std.proofs.Common.{◌∙◌, sym, subst}
use Rattle.map_model.specs.Requests as ask
use Rattle.read_cache.specs.Coherence.{IsCoherent}
use Rattle.ask_text.specs.declared.reply.Reply.{Reply}
use Rattle.ask_text.specs.declared.ends.End.{End}
use Rattle.work_session.specs.Servers.{BecomesCached, ServesJob, words_of}
use Rattle.work_session.proofs.CacheLaws.{keep_serves}
use Rattle.work_session.proofs.DoesLaws.{can_serve}
use Rattle.work_session.proofs.by_cache.CachedServer.save.Goals as goal

pub returns : goal.returns
returns g c =
    let a = g.D.Disk.state c.args.disk.now in
    let d = g.D.Disk.state c.keep-answer.new.disk in
    subst (λ (x : Result Reply End). ServesJob
    (words_of (λ c. c.store) (λ c d. IsCoherent c.store c.list.pairs d) BecomesCached g.row.C) ask.keep
    c.args.self.now c.keep-answer.new.self a d x)
    (sym c.answer_change.ensures)
    (keep_serves c.args.self.now c.keep-answer.new.self a d
    (can_serve c.args.self.now.store a c.requires.whole c.requires.sound c.requires.over c.requires.ready
    (g.met.D.Disk.lawful c.args.disk.now))
    c.keep-answer.ensures.coherent
    (λ whole. c.is_broken.ensures.sound (c.is_broken.ensures.same ∙ whole))
    c.keep-answer.result c.keep-answer.ensures.keep
    c.keep-answer.ensures.step c.keep-answer.ensures.over c.keep-answer.ensures.broken
    c.keep-answer.ensures.list)
