use Rattle.slot_codec.proofs.LogLaws.{walk_same}
use Rattle.slot_codec.proofs.laws.what_stands_behind_a_log_is_not_read.Goals as goal

pub returns : goal.returns
returns c = walk_same
