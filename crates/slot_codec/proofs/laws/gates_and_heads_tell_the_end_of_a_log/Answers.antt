use Rattle.slot_codec.proofs.ReadLogLaws.{log_end_tells}
use Rattle.slot_codec.proofs.laws.gates_and_heads_tell_the_end_of_a_log.Goals as goal

pub returns : goal.returns
returns c = log_end_tells
