use Rattle.extent_table.proofs.DeltaLaws.{kept_rolled-is}
use Rattle.extent_table.proofs.laws.changes_are_of_what_was_kept.Goals as goal

pub returns : goal.returns
returns c = kept_rolled-is
