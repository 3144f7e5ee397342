use Rattle.std.proofs.Common.{◌∙◌, ap, lit<, subst}
use Rattle.std.specs.FinMap as fin
use Rattle.store_model.specs.Charges.{ChargesStore}
use Rattle.store_model.specs.Connection.{StoreValue}
use Rattle.store_model.proofs.CopyChargesLaws.{charged_here}
use Rattle.store_model.proofs.InsideLaws.{opened}
use Rattle.store_core.proofs.LentLaws.{lent, lent_rest}
use Rattle.store_model.proofs.StoreLaws.{small_if_there}
use Rattle.store_core.proofs.store.Store.charge.Goals as goal

pub charge_change-outcome-requires : goal.charge_change-outcome-requires
charge_change-outcome-requires g c =
    let rest = lent_rest c.self.inside c.args.self.now c.deref-hands.result.now c.self.view_is
    c.self.invariant c.requires.idle c.deref-hands.ensures in
    let inside = lent c.self.inside c.deref-hands.result.now c.self.inside.kept_layout.value in
    let s = c.args.self.now in
    let name = c.args.name.now in (
      lit< tt,
      (
        rest.whole.classes,
        (
          rest.whole.wide,
          (
            small_if_there s
                (opened inside s rest.view rest.whole c.requires.whole).store name
                c.get-old.result
                (c.get-old.ensures ∙ ap (λ (x : StoreValue). fin.get x.now name) rest.view),
            c.requires.small,
          ),
        ),
      ),
    )

pub returns-clause-charges : goal.returns-clause-charges
returns-clause-charges g c =
    let rest = lent_rest c.self.inside c.args.self.now _ c.self.view_is
    c.self.invariant c.requires.idle c.deref-hands.ensures in
    let cc = c.charge_change-outcome in
    subst (λ (x : StoreValue). ChargesStore x c.args.name.now c.args.size cc.new.layout cc.result)
    rest.view
    (charged_here rest.whole.divisor c.get-old.ensures cc.ensures.charged)

pub returns-clause-sound : goal.returns-clause-sound
returns-clause-sound g c =
    let rest = lent_rest c.self.inside c.args.self.now c.deref-hands.result.now c.self.view_is
    c.self.invariant c.requires.idle c.deref-hands.ensures in
    let inside = lent c.self.inside c.deref-hands.result.now c.self.inside.kept_layout.value in
    (opened inside c.args.self.now rest.view rest.whole
    c.requires.whole).store
