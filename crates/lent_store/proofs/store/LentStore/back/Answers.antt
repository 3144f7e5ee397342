use Rattle.std.proofs.Common.{◌∙◌, ap, subst}
use Rattle.std.specs.Prelude.{OnOk}
use Rattle.lent_disk.specs.Notings.{content}
use Rattle.map_model.specs.Requests as ask
use Rattle.store_model.specs.Connection.{limits_of, state_of}
use Rattle.store_model.specs.States.{Step}
use Rattle.lent_store.specs.Embedded.{Embedded, file_in}
use Rattle.lent_store.proofs.BackLaws.{back_step}
use Rattle.lent_store.proofs.store.LentStore.back.Goals as goal

pub returns-clause-step : goal.returns-clause-step
returns-clause-step c =
    let s = c.self.inside.store in
    let n = c.self.inside.disk in
    subst (λ (e : Embedded). OnOk c.back.result (Step (limits_of e.store) (state_of e.store (file_in e))
    ask.back ask.done (state_of c.back.new.self (content n)))) c.self.view_is
    (back_step s c.back.new.self n c.back.result
    (ap (λ (e : Embedded). e.store.in_hand) c.self.view_is ∙ c.requires.idle) c.self.invariant
    c.back.ensures.answer c.back.ensures.step)
