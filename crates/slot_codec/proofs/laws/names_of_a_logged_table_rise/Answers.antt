use Rattle.slot_codec.proofs.KeyedLaws.{table_count_in, table_roll_in}
use Rattle.slot_codec.proofs.laws.names_of_a_logged_table_rise.Goals as goal

pub returns : goal.returns
returns c = record { rise = table_roll_in; count = table_count_in }
