use Rattle.sliced_laws.proofs.BytesLaws.{moves_within}
use Rattle.sliced_laws.proofs.laws.a_flush_moves_at_most_what_is_left.Goals as goal

pub returns : goal.returns
returns g k C h a b passes is goes free = moves_within g.D.Disk.state C passes a b h is goes free
