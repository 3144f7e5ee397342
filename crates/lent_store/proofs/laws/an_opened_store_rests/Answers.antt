use Rattle.lent_store.proofs.RestLaws.{opened_rests}
use Rattle.lent_store.proofs.laws.an_opened_store_rests.Goals as goal

pub returns : goal.returns
returns c = opened_rests
