use Rattle.lent_store.proofs.DurableLaws.{durable_opened, stays_back, stays_begun, stays_changed, stays_refused}
use Rattle.lent_store.proofs.durable_laws.what_is_durable_stays.Goals as goal

pub returns-clause-change : goal.returns-clause-change
returns-clause-change c = λ change m b old new is noted low durable.
    stays_changed old new durable change is noted low

pub returns-clause-begin : goal.returns-clause-begin
returns-clause-begin c = λ change m b old new is noted low durable.
    stays_begun old new durable change is noted low

pub returns-clause-refused : goal.returns-clause-refused
returns-clause-refused c = λ m b old new same durable. stays_refused old new durable same

pub returns-clause-back : goal.returns-clause-back
returns-clause-back c = λ m b old new back same durable. stays_back old new durable back same

pub returns-clause-opened : goal.returns-clause-opened
returns-clause-opened c = durable_opened
