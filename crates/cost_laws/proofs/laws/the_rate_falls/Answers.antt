use Rattle.move_cost.proofs.CostLaws.{rate_falls}
use Rattle.cost_laws.proofs.laws.the_rate_falls.Goals as goal

pub returns : goal.returns
returns c = rate_falls
