use Rattle.std.proofs.Common.{subst}
use Rattle.store_model.specs.Stores.{IsStanding, IsStore}
use Rattle.store_core.specs.Boxes.{unboxed}
use Rattle.store_model.proofs.InsideLaws.{standing_at}
use Rattle.store_core.proofs.LentLaws.{rest_of}
use Rattle.store_core.proofs.store.Store.is_broken.Goals as goal

pub returns-clause-sound : goal.returns-clause-sound
returns-clause-sound g c is idle =
    let rest = rest_of c.self.inside c.args.self.now c.self.view_is c.self.invariant idle in
    subst (IsStore g.row.C) rest.view (rest.whole.sound is)

pub returns-clause-standing : goal.returns-clause-standing
returns-clause-standing g c is =
    let i = c.self.inside in
    subst IsStanding c.self.view_is (standing_at i.flush i.began (unboxed i) c.self.invariant is)
