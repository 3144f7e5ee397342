-- The fields of a store whose hands are lent: contracts see what its parts are, with a flush in hand or none.
use Rattle.std.specs.Prelude.{◌≡◌, ℕ, Some, None, refl}
use Rattle.std.proofs.Common.{ap, sym, ◌∙◌, subst}
use Rattle.flush_run.specs.declared.hands.Hands.{Hands}
use Rattle.flush_run.specs.declared.phase.Phase.{Phase}
use Rattle.segment_layout.specs.declared.layout.Layout.{Layout}
use Rattle.store_model.specs.Inside.{HoldsAt, Inside, IsGoing, IsWhole, kept_of, seen}
use Rattle.store_core.specs.Boxes.{IsWholeIn, kept_in, unboxed}
use Rattle.store_core.specs.declared.store.Store.TheInside as store
use Rattle.store_model.specs.Connection.{StoreValue}
use Rattle.store_model.proofs.InsideLaws.{AtRest, rest_at}
use Rattle.store_model.proofs.SteppedLaws.{StepsFrom}

-- The fields of a store whose hands were lent, and its layout of the last checkpoint.
abbrev pub lent : {C : ℕ} → store.Inside C → Hands C → Layout C → Inside C
lent s hands layout = record { hands = hands; kept_layout = layout; broken = s.broken }

pub lent_is : {C : ℕ} (s : store.Inside C) {hands : Hands C} {layout : Layout C} → hands ≡ s.hands.value
    → layout ≡ s.kept_layout.value → lent s hands layout ≡ unboxed s
lent_is s same same_layout = λ i. record {
  hands = same i;
  kept_layout = same_layout i;
  broken = s.broken;
}

pub rest_of : {C : ℕ} (i : store.Inside C) (t : StoreValue) → kept_in i ≡ t → IsWholeIn i → t.in_hand ≡ None
    → AtRest i.flush (unboxed i) t
rest_of i t is whole idle = rest_at i.flush i.began (unboxed i) t is whole idle

-- what contracts see beside the flush in hand
pub beside : {C : ℕ} (i : store.Inside C) (t : StoreValue) → kept_in i ≡ t
    → kept_of (unboxed i) ≡ record t { in_hand = None }
beside i t is = ap (λ (x : StoreValue). record x { in_hand = None }) is

pub lent_rest : {C : ℕ} (i : store.Inside C) (t : StoreValue) (hands : Hands C) → kept_in i ≡ t → IsWholeIn i
    → t.in_hand ≡ None → hands ≡ i.hands.value
    → AtRest i.flush (lent i hands i.kept_layout.value) t
lent_rest i t hands view holds idle same =
    let rest = rest_of i t view holds idle in
    let is_lent = lent_is i same refl in
    record {
      none = rest.none;
      view = ap kept_of is_lent ∙ rest.view;
      whole = subst IsWhole (sym is_lent) rest.whole;
    }

-- with a flush in hand
pub steps_from : {C : ℕ} (i : store.Inside C) (t : StoreValue) (v : Phase C) (hands : Hands C)
    → i.flush ≡ Some v → kept_in i ≡ t → IsWholeIn i → hands ≡ i.hands.value
    → StepsFrom i.began (lent i hands i.kept_layout.value) v t
steps_from i t v hands flush view whole same =
    let is_lent = lent_is i same refl in
    record {
      going = subst (λ x. IsGoing i.began x v) (sym is_lent)
          (subst (λ o. HoldsAt o i.began (unboxed i)) flush whole);
      view = ap (λ x. seen (Some v) i.began x) is_lent
          ∙ subst (λ o. seen o i.began (unboxed i) ≡ t) flush view;
    }
