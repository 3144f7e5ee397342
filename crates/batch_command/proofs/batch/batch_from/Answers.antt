-- Where the file opens the batch is done, and else nothing is read or put.
use Rattle.std.proofs.Common.{Err, ap, inl, inr, refl, subst, sym}
use Rattle.command_face.specs.Outcomes.{status_of}
use Rattle.command_face.specs.declared.stop.StopReason.{StopReason}
use Rattle.batch_command.specs.Reading.{HasJudged}
use Rattle.batch_command.proofs.SourceLaws.{source_same, unopened_unjudged}
use Rattle.batch_command.proofs.batch.batch_from.Goals as goal

pub returns-in-Ok-clause-steps : goal.returns-in-Ok-clause-steps
returns-in-Ok-clause-steps g c = inr (record {
  store = c.in-Ok.store;
  mid = c.open.new.disk;
  opening = c.in-Ok.ensures;
  done = c.batch_store.ensures.steps;
})

pub returns-in-Ok-clause-source : goal.returns-in-Ok-clause-source
returns-in-Ok-clause-source g c = c.batch_store.ensures.source

pub returns-in-Err-clause-steps : goal.returns-in-Err-clause-steps
returns-in-Err-clause-steps g c = inl (record {
  fault = c.in-Err.fault;
  opening = c.in-Err.ensures;
  ended = ap (λ (w : StopReason). Err w) c.stop_of.ensures.same;
  nothing = refl;
})

pub returns-in-Err-clause-source : goal.returns-in-Err-clause-source
returns-in-Err-clause-source g c = source_same (g.I.Source.state c.args.input.now) _ c.stop_of.result refl
    c.stop_of.ensures.plain.0
    (subst (λ (w : StopReason). HasJudged (status_of w) → ⊥) (sym c.stop_of.ensures.same)
    (unopened_unjudged c.in-Err.fault))
