use Rattle.placement_model.proofs.BookLaws.{volumes_of_records}
use Rattle.placement_model.proofs.reads.volumes_are_those_of_the_records.Goals as goal

pub returns : goal.returns
returns c = volumes_of_records
