use Rattle.lent_store.proofs.StopLaws.{stopped_change}
use Rattle.lent_store.proofs.laws.a_stopped_change_opens.Goals as goal

pub returns : goal.returns
returns c = λ change old new result is noted rests low.
    stopped_change old new noted low change result is rests
