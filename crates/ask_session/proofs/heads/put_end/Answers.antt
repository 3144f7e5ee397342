use Rattle.std.proofs.Common.{ap, Err}
use Rattle.data_area.proofs.CauseLaws.{sink_cause_as}
use Rattle.ask_text.specs.declared.ends.End.{End}
use Rattle.ask_session.proofs.heads.put_end.Goals as goal

pub returns-in-Ok-clause-cause : goal.returns-in-Ok-clause-cause
returns-in-Ok-clause-cause g c =
    sink_cause_as c.in-Ok.ensures.cause (λ is. absurd (cc)) (λ is. absurd (cc))

pub returns-in-Err-clause-cause : goal.returns-in-Err-clause-cause
returns-in-Err-clause-cause g c = sink_cause_as c.in-Err.ensures.cause
    (λ is. ap (λ (x : End). Err x) c.in-Err.ensures.only)
    (λ is. ap (λ (x : End). Err x) c.in-Err.ensures.only)
