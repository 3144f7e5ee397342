-- The law is proved over plain values.
use Rattle.batch_core.proofs.LeftLaws.{viewed_as_done}
use Rattle.batch_core.proofs.laws.a_batch_is_viewed_as_done.Goals as goal

pub returns : goal.returns
returns c = viewed_as_done
