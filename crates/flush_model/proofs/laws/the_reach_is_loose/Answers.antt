use Rattle.flush_model.proofs.NumbersLaws.{reach_is_loose}
use Rattle.flush_model.proofs.laws.the_reach_is_loose.Goals as goal

pub returns : goal.returns
returns c = reach_is_loose
