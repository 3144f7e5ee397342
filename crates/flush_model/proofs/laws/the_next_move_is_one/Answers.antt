use Rattle.flush_model.proofs.OneLaws.{next_is_one}
use Rattle.flush_model.proofs.laws.the_next_move_is_one.Goals as goal

pub returns : goal.returns
returns c = next_is_one
