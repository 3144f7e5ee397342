-- The batch that is kept was finished and the input applied, or it couldn't be.
use Rattle.std.proofs.Common.{Err, ◌∙◌, ap, inl, inr, refl, subst, sym}
use Rattle.command_face.specs.Outcomes.{status_of}
use Rattle.command_face.specs.declared.stop.StopReason.{StopReason}
use Rattle.batch_command.specs.Reading.{HasJudged}
use Rattle.batch_command.proofs.SourceLaws.{not_source, source_read, source_same, unfinished_unjudged}
use Rattle.batch_command.proofs.batch.batch_with.Goals as goal

pub returns-in-Ok-clause-steps : goal.returns-in-Ok-clause-steps
returns-in-Ok-clause-steps g c = inr (inr (record {
  idle = record { idle = c.requires.over.idle; ready = c.requires.ready };
  new = c.finish.new.self;
  mid = c.finish.new.disk;
  done = _;
  finishes = c.in-Ok.ensures;
  after = c.apply_input.ensures;
}))

pub returns-in-Ok-clause-source : goal.returns-in-Ok-clause-source
returns-in-Ok-clause-source g c = source_read (g.I.Source.state c.args.input.now)
    (g.I.Source.state c.apply_input.new.input) _ c.finish.new.self _ _
    c.apply_input.result c.apply_input.ensures

pub returns-in-Err-clause-steps : goal.returns-in-Err-clause-steps
returns-in-Err-clause-steps g c = inr (inl (record {
  idle = record { idle = c.requires.over.idle; ready = c.requires.ready };
  new = c.finish.new.self;
  why = c.in-Err.fault;
  finishes = c.in-Err.ensures;
  ended = ap (λ (w : StopReason). Err w) c.reason_of.ensures;
  nothing = refl;
  unread = refl;
}))

pub returns-in-Err-clause-source : goal.returns-in-Err-clause-source
returns-in-Err-clause-source g c = source_same (g.I.Source.state c.args.input.now) _ c.reason_of.result refl
    (λ is. not_source c.in-Err.fault (sym c.reason_of.ensures ∙ is))
    (subst (λ (w : StopReason). HasJudged (status_of w) → ⊥) (sym c.reason_of.ensures)
    (unfinished_unjudged c.args.batcher c.in-Err.fault c.in-Err.ensures.answer))
