use Rattle.std.proofs.Common.{refl}
use Rattle.byte_ranges.specs.Lists.{below}
use Rattle.size_class.specs.Classes.{zero_row, class_of}
use Rattle.flush_model.proofs.laws.worked_numbers.Goals as goal

pub returns-clause-three : goal.returns-clause-three
unfolding below zero_row class_of
returns-clause-three c = refl

pub returns-clause-eleven : goal.returns-clause-eleven
unfolding below zero_row class_of
returns-clause-eleven c = refl
