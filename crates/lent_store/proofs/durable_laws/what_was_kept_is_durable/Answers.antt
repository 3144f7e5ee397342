use Rattle.lent_store.proofs.DurableLaws.{kept_apply, kept_change, kept_finish, kept_keep, kept_step}
use Rattle.lent_store.proofs.durable_laws.what_was_kept_is_durable.Goals as goal

pub returns-clause-change : goal.returns-clause-change
returns-clause-change c = λ change old new is. kept_change old new change is

pub returns-clause-keep : goal.returns-clause-keep
returns-clause-keep c = λ old new is idle inside. kept_keep old new is idle inside

pub returns-clause-step : goal.returns-clause-step
returns-clause-step c = λ h o old new is hand half. kept_step old new h o is hand half

pub returns-clause-apply : goal.returns-clause-apply
returns-clause-apply c = λ text changes old new is batch rests. kept_apply old new text changes is batch rests

pub returns-clause-finish : goal.returns-clause-finish
returns-clause-finish c = λ changes old new is batch rests. kept_finish old new changes is batch rests
