use Rattle.lent_store.proofs.StopLaws.{stopped_upgrade}
use Rattle.lent_store.proofs.laws.a_stopped_upgrade_opens.Goals as goal

pub returns : goal.returns
returns c = λ old new result is noted rests low. stopped_upgrade old new noted low result is rests
