use Rattle.lent_store.proofs.DurableLaws.{apply_stopped, begin_stopped, change_stopped, finish_stopped, keep_stopped, step_stopped}
use Rattle.lent_store.proofs.durable_laws.a_stopped_log_leaves_what_is_durable.Goals as goal

pub returns-clause-change : goal.returns-clause-change
returns-clause-change c = λ change m b old new result is noted low durable.
    change_stopped old new noted low durable change result is

pub returns-clause-keep : goal.returns-clause-keep
returns-clause-keep c = λ m b old new result is noted low durable.
    keep_stopped old new noted low durable result is

pub returns-clause-begin : goal.returns-clause-begin
returns-clause-begin c = λ change m b old new result is noted low durable.
    begin_stopped old new noted low durable change result is

pub returns-clause-step : goal.returns-clause-step
returns-clause-step c = λ h o old new result is noted hand half rest low.
    step_stopped old new noted low h o result is hand half rest

pub returns-clause-apply : goal.returns-clause-apply
returns-clause-apply c = λ text changes m b old new result is noted batch low durable.
    apply_stopped old new noted low durable text changes result is batch

pub returns-clause-finish : goal.returns-clause-finish
returns-clause-finish c = λ changes m b old new result is noted batch low durable.
    finish_stopped old new noted low durable changes result is batch
