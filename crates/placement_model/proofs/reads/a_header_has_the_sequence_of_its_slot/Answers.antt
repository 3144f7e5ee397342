use Rattle.slot_codec.proofs.ChoiceLaws.{chosen_sequence}
use Rattle.slot_codec.proofs.HeaderLaws.{header_fresh}
use Rattle.placement_model.proofs.reads.a_header_has_the_sequence_of_its_slot.Goals as goal

pub returns-clause-same : goal.returns-clause-same
returns-clause-same c = chosen_sequence

pub returns-clause-fresh : goal.returns-clause-fresh
returns-clause-fresh c = header_fresh
