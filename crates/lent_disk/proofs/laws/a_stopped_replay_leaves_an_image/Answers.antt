use Rattle.lent_disk.proofs.StopLaws.{spelled_stop}
use Rattle.lent_disk.proofs.laws.a_stopped_replay_leaves_an_image.Goals as goal

pub returns : goal.returns
returns c = spelled_stop
