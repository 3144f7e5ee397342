use Rattle.logged_pair.proofs.TableLaws.{pair_read}
use Rattle.logged_pair.proofs.laws.a_log_that_is_read_tells_the_pair.Goals as goal

pub returns : goal.returns
returns c = pair_read
