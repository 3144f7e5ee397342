-- What the charges of a change say that were tried on a copy of the layout.
use Rattle.std.specs.Prelude.{◌≡◌, ◌⊎◌, ℕ, ◌<◌, ◌≤◌, Bool, true, false, ◌&&◌, if◌then◌else◌, is_some, IsSome, List, [], length, Option, Some, None, refl}
use Rattle.std.proofs.Common.{ap, arith, sym, ◌∙◌, subst, inl, inr}
use Rattle.std.proofs.lemmas.List.{append-nil}
use Rattle.std.specs.FinMap as fin
use Rattle.size_class.specs.declared.TheConstants.{SIZE_MAX}
use Rattle.map_model.specs.Requests as ask
use Rattle.segment_layout.specs.Books.{charge_all, is_quiet}
use Rattle.segment_layout.specs.Layouts.{caps_of, divisor_of, grid_of}
use Rattle.segment_layout.specs.Shapes.{boundary_of}
use Rattle.segment_layout.specs.declared.layout.Layout.{Layout}
use Rattle.extent_table.specs.declared.spot.Spot.{Spot}
use Rattle.placement_model.specs.Quiet.{QuietTo, gone_items}
use Rattle.flush_run.specs.Parts.{HandsValue, parts_of}
use Rattle.placement_model.specs.Tried.{between, charged_by}
use Rattle.store_model.specs.Charging.{IsChargedBy, PlacesNew}
use Rattle.store_model.specs.declared.charge.ChargeResult.{ChargeResult}
use Rattle.store_model.specs.Answers.{refused_by}
use Rattle.store_model.specs.Charges.{CanPut, ChargesParts, ChargesStore, change_of, quiet_place}
use Rattle.store_model.specs.Connection.{StoreValue}
use Rattle.store_model.specs.Flushing.{NeedsFlushAt, TakesOut, bytes_of}
use Rattle.store_model.specs.Inside.{Inside, IsWhole, kept_of}
use Rattle.store_model.specs.Plans.{IsDelPlan, IsPutPlan}
use Rattle.store_model.specs.Quiet.{IsCharged, charges_of, del_of, put_of}
use Rattle.store_model.proofs.ChargedLaws.{ChargesTo}
use Rattle.store_model.proofs.InsideLaws.{cap_is}
use Rattle.store_model.proofs.FlushLaws.{del_loud, put_loud}
use Rattle.store_model.proofs.PlanLaws.{del_served, put_served}

pub charged_here : {C k k2 size : ℕ} {caps : List ℕ} {grid : List (List ℕ)} {old old2 : Option Spot}
    {after : Layout C} {r : ChargeResult} → k ≡ k2 → old ≡ old2 → IsChargedBy k caps grid old size after r
    → IsChargedBy k2 caps grid old2 size after r
charged_here {C} {k} {k2} {size} {caps} {grid} {old} {old2} {after} {r} same_k same_old x =
    subst (λ (n : ℕ). IsChargedBy n caps grid old2 size after r) same_k
    (subst (λ (o : Option Spot). IsChargedBy k caps grid o size after r) same_old x)

-- ---- quiet, or not

both_found : (gone : Bool) (p : Option ℕ) (place : ℕ) → (if gone then p else None) ≡ Some place
    → (gone ≡ true) × (p ≡ Some place)
both_found true p place is = (refl, is)
both_found false p place is = absurd (cc)

one_missed : (gone : Bool) (p : Option ℕ) → (if gone then p else None) ≡ None → (gone && is_some p) ≡ false
one_missed true p is = ap is_some is
one_missed false p is = refl

module _ {C k : ℕ} {caps : List ℕ} {grid : List (List ℕ)} {old : Option Spot} {size : ℕ} {after : Layout C}
    {r : ChargeResult} (x : IsChargedBy k caps grid old size after r) where
  pub charged_loud : quiet_place r ≡ None → is_quiet (charged_by k caps grid old size) ≡ false
  charged_loud none = x.quiet ∙ one_missed r.gone r.place none

  module _ (place : ℕ) (is : quiet_place r ≡ Some place) where
    found : (r.gone ≡ true) × (r.place ≡ Some place)
    found = both_found r.gone r.place place is

    pub charged_quiet : is_quiet (charged_by k caps grid old size) ≡ true
    charged_quiet = x.quiet ∙ ap (λ (b : Bool). b && is_some r.place) found.0 ∙ ap is_some found.1

    pub charged_place : IsCharged k caps grid old size (grid_of after) place
    charged_place = record {
      mid = between k caps grid old;
      gone = record { quiet = sym x.gone_found ∙ found.0; after_is = refl };
      placed = subst (λ (p : Option ℕ). PlacesNew k caps (between k caps grid old) size (grid_of after) p)
          found.1 x.new_place;
    }

pub charged_gone : {C k : ℕ} {caps : List ℕ} {grid : List (List ℕ)} {old : Option Spot} {after : Layout C}
    {r : ChargeResult} → IsChargedBy k caps grid old 0 after r → (place : ℕ) → quiet_place r ≡ Some place
    → QuietTo k caps grid (gone_items k caps old) (grid_of after)
charged_gone {C} {k} {caps} {grid} {old} {after} {r} x place is = record {
  quiet = sym x.gone_found ∙ (both_found r.gone r.place place is).0;
  after_is = x.same_grid
      ∙ ap (λ items. (charge_all k caps grid items).grid) (append-nil (gone_items k caps old));
}

-- ---- the plans of quiet changes

module _ {C : ℕ} {s : StoreValue} {name : List ℕ} {after : Layout C} {r : ChargeResult} (place : ℕ)
    (is : quiet_place r ≡ Some place) where
  pub put_plan : {object : List ℕ} → ChargesStore s name (length object) after r
      → refused_by s (ask.change (put_of name object)) ≡ None
      → IsPutPlan s name object name (divisor_of after) (caps_of after) (grid_of after)
      (record { place = place; size = length object })
  put_plan x served = record {
    served = served;
    same_name = refl;
    size = refl;
    divisor = x.divisor;
    same_caps = x.same_caps;
    charged = charged_place x place is;
  }

  pub del_plan : ChargesStore s name 0 after r → refused_by s (ask.change (del_of name)) ≡ None
      → IsDelPlan s name name (divisor_of after) (caps_of after) (grid_of after)
  del_plan x served = record {
    served = served;
    same_name = refl;
    divisor = x.divisor;
    same_caps = x.same_caps;
    charged = charged_gone x place is;
  }

-- ---- the charges, once a name was taken out

pub charges_after : {C : ℕ} {name : List ℕ} {x0 x1 : HandsValue} {size b : ℕ} {after : Layout C}
    {r : ChargeResult} → TakesOut name x0 x1 → ChargesParts x0 name size after r
    → b ≡ boundary_of (grid_of after) r.class
    → ChargesTo x1 (fin.get x0.table.now name) size (divisor_of after) (caps_of after) (grid_of after) r.gone
    r.place r.class b
charges_after {C} {name} {x0} {x1} {size} {b} {after} {r} out x is =
    subst (λ (y : HandsValue). ChargesTo y (fin.get x0.table.now name) size (divisor_of after) (caps_of after)
    (grid_of after) r.gone r.place r.class b) (sym out.rest) (record {
      grid = x.same_grid;
      place_is = x.new_place;
      quiet = x.quiet;
      class_is = x.least;
      divisor = x.divisor;
      caps_are = x.same_caps;
      boundary = is;
    })

-- ---- a put, or a removal of no bytes

pub bytes_of_change : (name bytes : List ℕ) (comes : Bool) → (comes ≡ false → bytes ≡ [])
    → bytes_of (change_of name bytes comes) ≡ bytes
bytes_of_change name bytes true nothing = refl
bytes_of_change name bytes false nothing = sym (nothing refl)

module _ {C : ℕ} (s : Inside C) (whole : IsWhole s) (unbroken : s.broken ≡ false) (name bytes : List ℕ) where
  abbrev ks : StoreValue
  ks = kept_of s

  pub change_loud : (comes : Bool) → (comes ≡ false → bytes ≡ [])
      → is_quiet (charges_of ks (change_of name bytes comes)) ≡ false
      → NeedsFlushAt (parts_of s.hands) name (length bytes)
  change_loud true nothing needs_flush = put_loud s whole unbroken name bytes needs_flush
  change_loud false nothing needs_flush =
      subst (λ (b : List ℕ). NeedsFlushAt (parts_of s.hands) name (length b)) (sym (nothing refl))
      (del_loud s whole unbroken name needs_flush)

  pub can_put : (comes : Bool) → (comes ≡ false → bytes ≡ [])
      → refused_by ks (ask.change (change_of name bytes comes)) ≡ None
      → CanPut (parts_of s.hands) name bytes comes
  can_put true nothing served =
      let can = put_served ks name bytes served in
      record {
        named = can.named;
        small = can.small;
        room = λ comes. elim can.room as (λ _. IsSome (fin.get s.hands.table.now name)
            ⊎ (fin.len s.hands.table.now < s.hands.table.cap)) [
              | inl there ↦ inl there
              | inr low ↦ inr (omega (arith, low, cap_is s whole))
            ];
      }
  can_put false nothing served = record {
    named = (del_served ks name served).named;
    small = subst (λ (b : List ℕ). length b ≤ SIZE_MAX) (sym (nothing refl)) (omega arith);
    room = λ bad. absurd (cc);
  }

  pub charges_parts : {after : Layout C} {r : ChargeResult} → ChargesStore ks name (length bytes) after r
      → ChargesParts (parts_of s.hands) name (length bytes) after r
  charges_parts {after} {r} x = subst (λ (k : ℕ). IsChargedBy k (caps_of s.hands.layout)
      (grid_of s.hands.layout) (fin.get s.hands.table.now name) (length bytes) after r) (sym whole.divisor) x
