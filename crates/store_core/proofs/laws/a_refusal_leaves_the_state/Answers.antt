use Rattle.store_model.proofs.StepLaws.{facts_same, refused_step}
use Rattle.store_core.proofs.laws.a_refusal_leaves_the_state.Goals as goal

pub returns-clause-facts : goal.returns-clause-facts
returns-clause-facts c = facts_same

pub returns-clause-step : goal.returns-clause-step
returns-clause-step c = refused_step
