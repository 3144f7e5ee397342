use Rattle.slot_codec.proofs.LogLaws.{walk_closed}
use Rattle.slot_codec.proofs.laws.a_closed_gate_ends_the_log.Goals as goal

pub returns : goal.returns
returns c = walk_closed
