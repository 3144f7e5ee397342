use Rattle.std.proofs.Common.{refl}
use Rattle.size_class.specs.Classes.{zero_row, zero_grid}
use Rattle.size_class.proofs.ClassLaws.{IsGrid-zero}
use Rattle.size_class.proofs.grid.Grid.zero.Goals as goal

pub invariant_of-result : goal.invariant_of-result
unfolding zero_row zero_grid
invariant_of-result g c = record { shape = IsGrid-zero g.row.C }

pub returns : goal.returns
unfolding zero_row zero_grid
returns g c = refl
