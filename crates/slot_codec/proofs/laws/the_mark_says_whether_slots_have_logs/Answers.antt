use Rattle.slot_codec.proofs.LoggedLaws.{mark_of_slot, plain_is_read, table_long}
use Rattle.slot_codec.proofs.laws.the_mark_says_whether_slots_have_logs.Goals as goal

pub returns : goal.returns
returns c = record { mark = mark_of_slot; plain = plain_is_read; long = table_long }
