use Rattle.store_model.specs.Quiet.{del_of}
use Rattle.ask_session.proofs.AnswerLaws.{change_answers}
use Rattle.ask_session.proofs.ReplyLaws.{answered_as}
use Rattle.ask_session.proofs.changes.serve_del.Goals as goal

pub returns : goal.returns
returns g c = answered_as c.answer_change.ensures (change_answers c.args.store.now c.del.new.self
    (del_of c.args.name.now) (g.D.Disk.state c.args.disk.now) (g.D.Disk.state c.del.new.disk) c.del.result
    c.requires.can c.del.ensures.change c.del.ensures.step)
