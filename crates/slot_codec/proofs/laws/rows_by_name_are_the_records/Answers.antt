use Rattle.slot_codec.proofs.RowLaws.{rows_are_records}
use Rattle.slot_codec.proofs.laws.rows_by_name_are_the_records.Goals as goal

pub returns : goal.returns
returns c = rows_are_records
