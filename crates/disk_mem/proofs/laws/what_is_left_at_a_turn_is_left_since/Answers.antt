use Rattle.disk_mem.proofs.TurnLaws.{left_at_is_since}
use Rattle.disk_mem.proofs.laws.what_is_left_at_a_turn_is_left_since.Goals as goal

pub returns : goal.returns
returns c = left_at_is_since
