use Rattle.std.proofs.Common.{◌∙◌, sym}
use Rattle.store_model.proofs.BegunServeLaws.{begins_quietly, begins_stopped}
use Rattle.store_model.proofs.CopyChargesLaws.{charged_quiet}
use Rattle.store_core.proofs.store.Store.begin_put_accepted.Goals as goal

pub returns-in-Ok : goal.returns-in-Ok
returns-in-Ok g c = begins_quietly
    (charged_quiet c.charge-charged.ensures.charges c.in-Some.place (sym c.place.ensures ∙ c.in-Some.is))
    c.in-Ok.ensures.quiet c.in-Ok.ensures.step c.put_planned.ensures.over c.in-Ok.ensures.broken

pub returns-in-Err : goal.returns-in-Err
returns-in-Err g c = begins_stopped
    (charged_quiet c.charge-charged.ensures.charges c.in-Some.place (sym c.place.ensures ∙ c.in-Some.is))
    c.in-Err.ensures.answer c.in-Err.ensures.quiet c.put_planned.ensures.over c.in-Err.ensures.broken

pub returns-in-None : goal.returns-in-None
returns-in-None g c = c.begin_flush.ensures
