use Rattle.lent_store.proofs.BatchLaws.{apply_rests, finish_rests}
use Rattle.lent_store.proofs.batch_laws.a_store_rests_after_a_batch.Goals as goal

pub returns-clause-apply : goal.returns-clause-apply
returns-clause-apply c = apply_rests

pub returns-clause-finish : goal.returns-clause-finish
returns-clause-finish c = finish_rests
