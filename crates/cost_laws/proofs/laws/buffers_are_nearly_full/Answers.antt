use Rattle.cost_laws.proofs.NearFull.{near_full}
use Rattle.cost_laws.proofs.laws.buffers_are_nearly_full.Goals as goal

pub returns : goal.returns
returns c = near_full
