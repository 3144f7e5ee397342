use Rattle.std.proofs.Common.{◌∙◌, refl, subst}
use Rattle.std.specs.Prelude.{IfOk}
use Rattle.lent_disk.specs.Disks.{lent_state}
use Rattle.lent_store.specs.Embedded.{Embedded}
use Rattle.lent_store.specs.Readings.{StandsAt}
use Rattle.lent_store.proofs.CopyLaws.{standing_there}
use Rattle.lent_store.proofs.store.LentStore.position.Goals as goal

pub returns-clause-object : goal.returns-clause-object
returns-clause-object c =
    let s = c.self.inside.store in
    subst (λ (e : Embedded). IfOk c.position.result (StandsAt e c.args.name.now)) c.self.view_is
    (standing_there s (lent_state c.self.inside.disk) c.args.name.now c.position.result
    (λ whole. c.is_broken.ensures.standing (c.is_broken.ensures.same ∙ whole))
    (λ whole. c.is_broken.ensures.sound (c.is_broken.ensures.same ∙ whole)) c.self.invariant refl
    c.position.ensures)
