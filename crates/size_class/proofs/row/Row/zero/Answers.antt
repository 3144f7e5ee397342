use Rattle.std.proofs.Common.{refl}
use Rattle.byte_ranges.proofs.ListLaws.{zeros_at}
use Rattle.size_class.specs.Classes.{zero_row}
use Rattle.size_class.proofs.row.Row.zero.Goals as goal

pub invariant_of-result : goal.invariant_of-result
invariant_of-result g c = record { shape = record { full = refl; zero_above = λ i h. zeros_at 32 i } }

pub returns : goal.returns
unfolding zero_row
returns g c = refl
