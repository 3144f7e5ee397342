use Rattle.lent_store.proofs.BatchLaws.{stopped_apply, stopped_finish}
use Rattle.lent_store.proofs.batch_laws.a_stopped_batch_opens.Goals as goal

pub returns-clause-apply : goal.returns-clause-apply
returns-clause-apply c = λ text changes old new result is noted batch rests low.
    stopped_apply old new noted low text changes result is batch rests

pub returns-clause-finish : goal.returns-clause-finish
returns-clause-finish c = λ changes old new result is noted batch rests low.
    stopped_finish old new noted low changes result is batch rests
