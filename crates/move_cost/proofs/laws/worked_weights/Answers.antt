use Rattle.std.proofs.Common.{refl}
use Rattle.byte_ranges.specs.Lists.{below, sum_below}
use Rattle.size_class.specs.Classes.{zero_row}
use Rattle.move_cost.proofs.laws.worked_weights.Goals as goal

pub returns : goal.returns
unfolding below sum_below zero_row
returns c = record {
  moved_linear = refl;
  asked_linear = refl;
  moved_flat = refl;
  asked_flat = refl;
  moved_seek = refl;
  asked_seek = refl;
}
