use Rattle.map_model.specs.Requests as ask
use Rattle.store_model.specs.Answers.{refused_by}
use Rattle.ask_session.proofs.AnswerLaws.{keep_answers, keep_calls}
use Rattle.ask_session.proofs.ReplyLaws.{answered_as}
use Rattle.ask_session.proofs.changes.serve_keep.Goals as goal

pub returns-clause-answers : goal.returns-clause-answers
returns-clause-answers g c =
    answered_as c.answer_change.ensures (keep_answers c.args.store.now c.keep.new.self
    (g.D.Disk.state c.args.disk.now) (g.D.Disk.state c.keep.new.disk) c.keep.result c.requires.can
    c.keep.ensures.answer c.keep.ensures.refused c.keep.ensures.kept
    c.keep.ensures.step c.keep.ensures.over c.keep.ensures.broken)

pub returns-clause-calls : goal.returns-clause-calls
returns-clause-calls g c = keep_calls c.args.store.now c.keep.new.self (g.D.Disk.state c.args.disk.now)
    (g.D.Disk.state c.keep.new.disk) c.keep.result (refused_by c.args.store.now ask.keep)
    c.keep.ensures.refused c.keep.ensures.kept
