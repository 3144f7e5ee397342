use Rattle.lent_store.proofs.StopLaws.{stopped_keep}
use Rattle.lent_store.proofs.laws.a_stopped_keep_opens.Goals as goal

pub returns : goal.returns
returns c = λ old new result refused kept noted rests low.
    stopped_keep old new noted low result refused kept rests
