use Rattle.lent_store.proofs.StopLaws.{stopped_opening}
use Rattle.lent_store.proofs.laws.a_stopped_opening_opens.Goals as goal

pub returns : goal.returns
returns c = stopped_opening
