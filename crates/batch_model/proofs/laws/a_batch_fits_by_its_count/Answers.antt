-- The law is proved over plain values.
use Rattle.batch_model.proofs.CountLaws.{counted_is}
use Rattle.batch_model.proofs.laws.a_batch_fits_by_its_count.Goals as goal

pub returns : goal.returns
returns c = counted_is
