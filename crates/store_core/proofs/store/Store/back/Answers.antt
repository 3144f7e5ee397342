use Rattle.std.proofs.Common.{◌∙◌, ap, subst, sym}
use Rattle.store_model.specs.Connection.{IsOver, StoreValue, limits_of, state_of}
use Rattle.store_model.specs.States.{Step}
use Rattle.map_model.specs.Requests as ask
use Rattle.store_model.proofs.BackLaws.{back_view, back_whole, gone_back, over_back, step_back}
use Rattle.segment_layout.specs.declared.layout.Layout.{Layout}
use Rattle.store_model.specs.Inside.{Inside, IsWhole, kept_of}
use Rattle.store_core.proofs.LentLaws.{lent, lent_rest}
use Rattle.store_core.proofs.store.Store.back.Goals as goal

pub invariant_of-self : goal.invariant_of-self
invariant_of-self g c =
    let rest = lent_rest c.self.inside c.args.self.now c.deref_mut-hands.result.now c.self.view_is
    c.self.invariant c.requires.idle c.deref_mut-hands.ensures.value in
    let inside = lent c.self.inside c.deref_mut-hands.result.now c.self.inside.kept_layout.value in
    let gone : Layout g.row.C → Inside g.row.C = λ l. record inside {
      hands = record inside.hands { table = c.back.new.self; layout = l; guard = c.clear.new.self };
    } in
    rw rest.none (subst (λ (l : Layout g.row.C). IsWhole (gone l)) (sym c.deref.ensures)
    (back_whole inside rest.whole c.back.new.self c.clear.new.self c.back.ensures.now c.back.ensures.kept
    c.back.ensures.digests c.back.ensures.kept_digests
    c.back.ensures.table c.back.ensures.names c.back.ensures.cap c.clear.ensures.empty c.clear.ensures.room))

pub returns-clause-step : goal.returns-clause-step
returns-clause-step g c file over =
    let rest = lent_rest c.self.inside c.args.self.now c.deref_mut-hands.result.now c.self.view_is
    c.self.invariant c.requires.idle c.deref_mut-hands.ensures.value in
    let inside = lent c.self.inside c.deref_mut-hands.result.now c.self.inside.kept_layout.value in
    let gone : Layout g.row.C → Inside g.row.C = λ l. record inside {
      hands = record inside.hands { table = c.back.new.self; layout = l; guard = c.clear.new.self };
    } in
    let s = c.args.self.now in
    let same = ap (λ (l : Layout g.row.C). kept_of (gone l)) c.deref.ensures
    ∙ back_view inside rest.whole c.back.new.self c.clear.new.self c.back.ensures.now c.back.ensures.kept
    c.back.ensures.digests c.back.ensures.kept_digests
    ∙ ap gone_back rest.view in
    subst (λ (x : StoreValue). Step (limits_of s) (state_of s file) ask.back ask.done (state_of x file))
    (sym same) (step_back s file)

pub returns-clause-over : goal.returns-clause-over
returns-clause-over g c file over =
    let rest = lent_rest c.self.inside c.args.self.now c.deref_mut-hands.result.now c.self.view_is
    c.self.invariant c.requires.idle c.deref_mut-hands.ensures.value in
    let inside = lent c.self.inside c.deref_mut-hands.result.now c.self.inside.kept_layout.value in
    let gone : Layout g.row.C → Inside g.row.C = λ l. record inside {
      hands = record inside.hands { table = c.back.new.self; layout = l; guard = c.clear.new.self };
    } in
    let s = c.args.self.now in
    let same = ap (λ (l : Layout g.row.C). kept_of (gone l)) c.deref.ensures
    ∙ back_view inside rest.whole c.back.new.self c.clear.new.self c.back.ensures.now c.back.ensures.kept
    c.back.ensures.digests c.back.ensures.kept_digests
    ∙ ap gone_back rest.view in
    rw rest.none (subst (λ (x : StoreValue). IsOver g.row.C x file) (sym same)
    (over_back s file (c.is_broken.ensures.sound c.if-is_broken.false c.requires.idle) over))
