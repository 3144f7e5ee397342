use Rattle.placement_model.proofs.WholeLaws.{places_from_below}
use Rattle.placement_model.proofs.rules.below_the_bound_is_whole.Goals as goal

pub returns : goal.returns
returns c = places_from_below
