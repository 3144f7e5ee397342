use Rattle.store_model.specs.Quiet.{put_of}
use Rattle.ask_session.proofs.AnswerLaws.{change_answers}
use Rattle.ask_session.proofs.ReplyLaws.{answered_as}
use Rattle.ask_session.proofs.changes.serve_put.Goals as goal

pub returns : goal.returns
returns g c = answered_as c.answer_change.ensures (change_answers c.args.store.now c.put.new.self
    (put_of c.args.name.now c.args.object.now) (g.D.Disk.state c.args.disk.now)
    (g.D.Disk.state c.put.new.disk) c.put.result c.requires.can c.put.ensures.change c.put.ensures.step)
