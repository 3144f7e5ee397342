use Rattle.std.proofs.Common.{ap, refl, Err, None}
use Rattle.map_model.specs.Requests as ask
use Rattle.store_model.proofs.AnsweredLaws.{refused_is}
use Rattle.ask_session.proofs.AnswerLaws.{none_is}
use Rattle.store_model.specs.declared.answers.Refusal.{Refusal}
use Rattle.data_area.proofs.CauseLaws.{sink_cause_as}
use Rattle.ask_session.proofs.PutLaws.{puts_sink}
use Rattle.ask_session.proofs.ReplyLaws.{list_fault}
use Rattle.ask_session.proofs.reads.put_list.Goals as goal

pub returns-in-Err-clause-puts : goal.returns-in-Err-clause-puts
returns-in-Err-clause-puts g c told = puts_sink _ _ _ _
    (c.in-Err.ensures.put (none_is _ (refused_is c.args.store.now ask.list None c.requires.whole refl)) told)

pub returns-in-Err-clause-cause : goal.returns-in-Err-clause-cause
returns-in-Err-clause-cause g c = sink_cause_as c.in-Err.ensures.cause
    (λ is. ap (λ (x : Refusal). Err x) (list_fault _ _
    (refused_is c.args.store.now ask.list None c.requires.whole refl) c.in-Err.ensures.answer))
    (λ is. refl)

pub returns-in-Ok-clause-cause : goal.returns-in-Ok-clause-cause
returns-in-Ok-clause-cause g c =
    sink_cause_as c.in-Ok.ensures.cause (λ is. absurd (cc)) (λ is. absurd (cc))
