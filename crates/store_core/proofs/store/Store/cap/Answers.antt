use Rattle.std.proofs.Common.{◌∙◌, ap, refl, subst, sym, true}
use Rattle.slot_codec.specs.Spelling.{cap}
use Rattle.slot_codec.specs.declared.codec.SuperBlock.{SuperBlock}
use Rattle.logged_pair.specs.Slots.{used_in}
use Rattle.store_model.specs.Connection.{live_cap}
use Rattle.store_model.specs.Inside.{Inside, IsWhole, kept_of}
use Rattle.store_core.specs.Boxes.{unboxed}
use Rattle.store_model.proofs.InsideLaws.{parts_at, version_is}
use Rattle.store_core.proofs.LentLaws.{beside, lent, lent_is}
use Rattle.store_core.proofs.store.Store.cap.Goals as goal

pub returns : goal.returns
returns g c =
    let is_lent = lent_is c.self.inside c.deref-hands.ensures refl in
    let inside = lent c.self.inside c.deref-hands.result.now c.self.inside.kept_layout.value in
    let i = c.self.inside in
    let view_is = ap kept_of is_lent ∙ beside i c.args.self.now c.self.view_is in
    let parts = parts_at i.flush i.began (unboxed i) c.self.invariant in
    let broken : Inside g.row.C → Inside g.row.C = λ s. record s { broken = true } in
    let invariant = subst (λ s. IsWhole (broken s)) (sym is_lent) parts in
    c.cap.ensures ∙ ap (λ (b : SuperBlock). cap b.names inside.hands.version) c.block.ensures
    ∙ ap (cap (used_in inside.hands.slots).block.names) (sym (version_is (broken inside) invariant))
    ∙ ap live_cap view_is
