use Rattle.std.proofs.Common.{refl}
use Rattle.lent_store.proofs.StopLaws.{stopped_begin, stopped_step}
use Rattle.lent_store.proofs.laws.a_stopped_flush_opens.Goals as goal

pub returns-clause-begin : goal.returns-clause-begin
returns-clause-begin c = λ change old new result is noted rests low.
    stopped_begin old new noted low change result is rests

pub returns-clause-step : goal.returns-clause-step
returns-clause-step c = λ h o old new result is noted hand half rests low.
    stopped_step old new noted low h o result hand rests
    (is.half refl h o hand (record { flies = half.flies; loose = half.loose }))
