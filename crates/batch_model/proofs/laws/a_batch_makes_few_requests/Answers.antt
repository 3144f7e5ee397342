-- The law is proved over plain values.
use Rattle.batch_model.proofs.MadeLaws.{few_made}
use Rattle.batch_model.proofs.laws.a_batch_makes_few_requests.Goals as goal

pub returns : goal.returns
returns c = few_made
