use Rattle.std.proofs.Common.{sym, subst}
use Rattle.std.specs.Prelude.{Result}
use Rattle.store_model.specs.Quiet.{put_of}
use Rattle.map_model.specs.Requests as ask
use Rattle.ask_text.specs.declared.reply.Reply.{Reply}
use Rattle.ask_text.specs.declared.ends.End.{End}
use Rattle.work_session.specs.Jobs.{Does}
use Rattle.work_session.proofs.DoesLaws.{can_serve, change_does}
use Rattle.work_session.proofs.DoneLaws.{put_short}
use Rattle.work_session.proofs.ServingLaws.{store_serves}
use Rattle.work_session.proofs.by_store.StoreServer.put_object.Goals as goal

pub returns : goal.returns
returns g c = store_serves (
    subst (λ (x : Result Reply End). Does g.row.C (ask.change
    (put_of c.args.name.now c.args.object.now)) c.args.self.now c.put-answer.new.self
    (g.D.Disk.state c.args.disk.now)
    (g.D.Disk.state c.put-answer.new.disk) x)
    (sym c.answer_change.ensures)
    (change_does c.args.self.now c.put-answer.new.self (put_of c.args.name.now c.args.object.now)
    (g.D.Disk.state c.args.disk.now) (g.D.Disk.state c.put-answer.new.disk) c.put-answer.result
    (can_serve c.args.self.now (g.D.Disk.state c.args.disk.now) c.requires.whole c.requires.sound
    c.requires.over c.requires.ready (g.met.D.Disk.lawful c.args.disk.now))
    (put_short c.args.name.now c.args.object.now c.requires.short)
    c.put-answer.ensures.change c.put-answer.ensures.step c.is_sound.ensures))
