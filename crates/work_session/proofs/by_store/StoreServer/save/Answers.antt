use Rattle.std.proofs.Common.{sym, subst}
use Rattle.std.specs.Prelude.{Result}
use Rattle.map_model.specs.Requests as ask
use Rattle.ask_text.specs.declared.reply.Reply.{Reply}
use Rattle.ask_text.specs.declared.ends.End.{End}
use Rattle.work_session.specs.Jobs.{Does}
use Rattle.work_session.proofs.DoesLaws.{can_serve, keep_does}
use Rattle.work_session.proofs.ServingLaws.{store_serves}
use Rattle.work_session.proofs.by_store.StoreServer.save.Goals as goal

pub returns : goal.returns
returns g c = store_serves (
    subst (λ (x : Result Reply End). Does g.row.C ask.keep c.args.self.now c.keep-answer.new.self
    (g.D.Disk.state c.args.disk.now) (g.D.Disk.state c.keep-answer.new.disk) x)
    (sym c.answer_change.ensures)
    (keep_does c.args.self.now c.keep-answer.new.self
    (g.D.Disk.state c.args.disk.now) (g.D.Disk.state c.keep-answer.new.disk)
    (can_serve c.args.self.now (g.D.Disk.state c.args.disk.now) c.requires.whole c.requires.sound
    c.requires.over c.requires.ready (g.met.D.Disk.lawful c.args.disk.now))
    c.keep-answer.result
    (record {
      answer = c.keep-answer.ensures.answer;
      refused = c.keep-answer.ensures.refused;
      kept = c.keep-answer.ensures.kept;
    })
    c.keep-answer.ensures.step c.keep-answer.ensures.over c.keep-answer.ensures.broken c.is_sound.ensures))
