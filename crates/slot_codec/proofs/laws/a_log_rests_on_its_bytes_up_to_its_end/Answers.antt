use Rattle.slot_codec.proofs.ReadLogLaws.{log_before}
use Rattle.slot_codec.proofs.laws.a_log_rests_on_its_bytes_up_to_its_end.Goals as goal

pub returns : goal.returns
returns c = log_before
