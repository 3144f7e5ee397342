use Rattle.std.proofs.Common.{refl}
use Rattle.byte_ranges.specs.Lists.{below}
use Rattle.size_class.specs.Classes.{lg_up}
use Rattle.move_cost.proofs.laws.worked_factors.Goals as goal

pub returns : goal.returns
unfolding below lg_up
returns c = record {
  two = refl;
  nine = refl;
  most = refl;
}
