use Rattle.logged_pair.proofs.NextLaws.{no_more_calls}
use Rattle.logged_pair.proofs.laws.a_save_of_changes_makes_no_more_calls.Goals as goal

pub returns : goal.returns
returns c = no_more_calls
