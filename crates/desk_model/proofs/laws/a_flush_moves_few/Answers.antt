-- The law is proved over plain values.
use Rattle.desk_model.proofs.StepLaws.{few_moved}
use Rattle.desk_model.proofs.laws.a_flush_moves_few.Goals as goal

pub returns : goal.returns
returns c = few_moved
