use Rattle.lent_disk.proofs.StopLaws.{spelled_made}
use Rattle.lent_disk.proofs.laws.a_made_log_leaves_what_the_disk_says.Goals as goal

pub returns : goal.returns
returns c = spelled_made
