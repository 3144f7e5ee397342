use Rattle.slot_codec.proofs.ReadLogLaws.{log_closed, log_ends_closed}
use Rattle.slot_codec.proofs.laws.a_log_is_read_up_to_a_closed_gate.Goals as goal

pub returns : goal.returns
returns c = record { none = log_closed; closed = log_ends_closed }
