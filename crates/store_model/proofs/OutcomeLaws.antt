-- What came of the charges of a change: of each item, of both, and the least class of what found no room.
use Rattle.std.specs.Prelude.{◌≡◌, ◌⊎◌, ℕ, ◌^◌, ◌<◌, ◌≤◌, nat_lt, min, Bool, false, ◌&&◌, List, [], ◌∷◌, fold, Option, Some, None, IfSome, is_some}
use Rattle.std.proofs.Common.{arith, sym, ◌∙◌, ap, subst, inl, inr}
use Rattle.std.proofs.lemmas.Bool.{cases_Bool, cond-false, cond-true}
use Rattle.std.proofs.lemmas.List.Folds.{list_all-append}
use Rattle.std.proofs.lemmas.List.Sums.{fold-append}
use Rattle.std.specs.FinMap as fin
use Rattle.size_class.specs.Classes.{class_of}
use Rattle.segment_layout.specs.Books.{Charged, charge_all, is_quiet, some_size, trigger}
use Rattle.extent_table.specs.declared.spot.Spot.{Spot}
use Rattle.placement_model.specs.Quiet.{gone_items, is_in_payload}
use Rattle.placement_model.proofs.LaidOutLaws.{class_in_use}
use Rattle.placement_model.proofs.TriedLaws.{Tried, charged_found, charged_missed, charged_none, gone_tried, loud_grid, loud_missed, new_tried}
use Rattle.placement_model.proofs.QuietLaws.{charge_all-split}
use Rattle.placement_model.specs.Tried.{between, charged_by, gone_charged, new_charged, size_at}
use Rattle.store_model.specs.Charging.{PlacesNew, lesser}

-- the class of a size is one of those in use
pub class_low : (classes size_max size : ℕ) → size_max < 2 ^ classes → 1 ≤ size → size ≤ size_max
    → class_of size < classes
class_low classes size_max size wide some small = class_in_use classes size_max 0 [] [] fin.empty wide size
    some small

-- the size of an object is at most what each is, where there is one
pub small_at : (old : Option Spot) (most : ℕ) → IfSome old (λ s. s.size ≤ most) → size_at old ≤ most
small_at None most low = omega arith
small_at (Some s) most low = low

module _ (k : ℕ) (caps : List ℕ) where
  -- the lesser of a class and that of the item, where it found none
  one_lesser : (grid : List (List ℕ)) (items : List ℕ) (n a : ℕ) → ((w : ℕ) → items ≡ w ∷ [] → w ≡ n)
      → Tried k caps grid items → fold lesser a (charge_all k caps grid items).tried
      ≡ lesser a (n, is_quiet (charge_all k caps grid items))
  one_lesser grid items n a only (inl none) =
      let c = charged_none k caps grid items none in
      ap (λ (x : Charged). fold lesser a x.tried) c ∙ sym (ap (λ (x : Charged). lesser a (n, is_quiet x)) c)
  one_lesser grid items n a only (inr (inl f)) =
      let c = charged_found k caps grid items f in
      ap (λ (x : Charged). fold lesser a x.tried) c ∙ sym (ap (λ (x : Charged). lesser a (n, is_quiet x)) c)
  one_lesser grid items n a only (inr (inr m)) =
      let c = charged_missed k caps grid items m in
      ap (λ (x : Charged). fold lesser a x.tried) c ∙ ap (λ w. min a (class_of w)) (only m.size m.is)
      ∙ sym (ap (λ (x : Charged). lesser a (n, is_quiet x)) c)

  one_of : (size w : ℕ) → some_size size ≡ w ∷ [] → w ≡ size
  one_of size w is = elim (cases_Bool (nat_lt 0 size)) as (λ _. w ≡ size) [
    | inl some ↦ let e : size ∷ [] ≡ w ∷ [] = sym (cond-true (nat_lt 0 size) (size ∷ []) [] some) ∙ is in cc
    | inr none ↦ absurd (let e : [] ≡ w ∷ [] = sym (cond-false (nat_lt 0 size) (size ∷ []) [] none) ∙ is in
        cc)
  ]

  one_gone : (old : Option Spot) (w : ℕ) → gone_items k caps old ≡ w ∷ [] → w ≡ size_at old
  one_gone None w is = absurd (cc)
  one_gone (Some s) w is = elim (cases_Bool (is_in_payload k caps s)) as (λ _. w ≡ s.size) [
    | inl here ↦ one_of s.size w (sym (cond-true (is_in_payload k caps s) (some_size s.size) [] here) ∙ is)
    | inr off ↦ absurd (let e : [] ≡ w ∷ [] =
        sym (cond-false (is_in_payload k caps s) (some_size s.size) [] off) ∙ is in cc)
  ]

  -- ---- both items

  module _ (grid : List (List ℕ)) (old : Option Spot) (size : ℕ) where
    abbrev mid : List (List ℕ)
    mid = between k caps grid old

    abbrev gone : Bool
    gone = is_quiet (gone_charged k caps grid old)

    abbrev new : Bool
    new = is_quiet (new_charged k caps mid size)

    pub both_grid : (charged_by k caps grid old size).grid ≡ (new_charged k caps mid size).grid
    both_grid = ap (λ (c : Charged). c.grid) (charge_all-split k caps grid (gone_items k caps old)
        (some_size size))

    pub both_quiet : is_quiet (charged_by k caps grid old size) ≡ (gone && new)
    both_quiet =
        ap is_quiet (charge_all-split k caps grid (gone_items k caps old) (some_size size))
        ∙ list_all-append (λ (item : ℕ × Bool). item.1) (gone_charged k caps grid old).tried
        (new_charged k caps mid size).tried

    -- the trigger is the least class of what found no room, or the last class
    pub trigger_is : trigger (charged_by k caps grid old size)
        ≡ lesser (lesser 31 (size_at old, gone)) (size, new)
    trigger_is =
        ap trigger (charge_all-split k caps grid (gone_items k caps old) (some_size size))
        ∙ fold-append lesser 31 (gone_charged k caps grid old).tried (new_charged k caps mid size).tried
        ∙ one_lesser mid (some_size size) size (fold lesser 31 (gone_charged k caps grid old).tried)
        (one_of size)
        (new_tried k caps mid size)
        ∙ ap (λ a. lesser a (size, new)) (one_lesser grid (gone_items k caps old) (size_at old) 31
        (one_gone old)
        (gone_tried k caps grid old))

    -- what found no room is of the trigger's class or of a greater one
    pub trigger_gone : gone ≡ false → trigger (charged_by k caps grid old size) ≤ class_of (size_at old)
    trigger_gone needs_flush =
        let a : lesser 31 (size_at old, gone) ≤ class_of (size_at old) =
        omega (arith, cond-false gone 31 (min 31 (class_of (size_at old))) needs_flush) in
        elim (cases_Bool new) [
          | inl found ↦ omega (
            arith,
            a,
            trigger_is,
            cond-true new (lesser 31 (size_at old, gone))
                (min (lesser 31 (size_at old, gone)) (class_of size)) found,
          )
          | inr missed ↦ omega (
            arith,
            a,
            trigger_is,
            cond-false new (lesser 31 (size_at old, gone))
                (min (lesser 31 (size_at old, gone)) (class_of size)) missed,
          )
        ]

    pub trigger_new : new ≡ false → trigger (charged_by k caps grid old size) ≤ class_of size
    trigger_new needs_flush = omega (
      arith,
      trigger_is,
      cond-false new (lesser 31 (size_at old, gone)) (min (lesser 31 (size_at old, gone)) (class_of size))
          needs_flush,
    )

    pub gone_some : gone ≡ false → 1 ≤ size_at old
    gone_some needs_flush =
        let m = loud_missed k caps grid (gone_items k caps old) (gone_tried k caps grid old) needs_flush in
        omega (arith, m.some, one_gone old m.size m.is)

    pub new_some : new ≡ false → 1 ≤ size
    new_some needs_flush =
        let m = loud_missed k caps mid (some_size size) (new_tried k caps mid size) needs_flush in
        omega (arith, m.some, one_of size m.size m.is)

    -- one of the two found no room
    pub one_missed : is_quiet (charged_by k caps grid old size) ≡ false → (gone ≡ false) ⊎ (new ≡ false)
    one_missed needs_flush = elim (cases_Bool gone) as (λ _. (gone ≡ false) ⊎ (new ≡ false)) [
      | inr missed ↦ inl missed
      | inl found ↦ inr (sym (ap (λ x. x && new) found) ∙ sym both_quiet ∙ needs_flush)
    ]

    -- so the trigger is a class in use
    pub trigger_low : (classes size_max : ℕ) → size_max < 2 ^ classes → size_at old ≤ size_max
        → size ≤ size_max
        → is_quiet (charged_by k caps grid old size) ≡ false
        → trigger (charged_by k caps grid old size) < classes
    trigger_low classes size_max wide old_small small needs_flush = elim (one_missed needs_flush) [
      | inl missed ↦ omega (
        arith,
        trigger_gone missed,
        class_low classes size_max (size_at old) wide (gone_some missed) old_small,
      )
      | inr missed ↦ omega (
        arith,
        trigger_new missed,
        class_low classes size_max size wide (new_some missed) small,
      )
    ]

  -- ---- the place of a new object

  pub placed_quiet : (grid after : List (List ℕ)) (size : ℕ) (place : Option ℕ)
      → PlacesNew k caps grid size after place → is_some place ≡ is_quiet (new_charged k caps grid size)
  placed_quiet grid after size None p = sym p.0
  placed_quiet grid after size (Some place) p = sym p.charged.quiet

  pub placed_grid : (grid after : List (List ℕ)) (size : ℕ) (place : Option ℕ)
      → PlacesNew k caps grid size after place → after ≡ (new_charged k caps grid size).grid
  placed_grid grid after size None p = p.1
      ∙ sym (loud_grid k caps grid (some_size size) (new_tried k caps grid size) p.0)
  placed_grid grid after size (Some place) p = p.charged.after_is

-- What came of both charges, where the layout that the new object finds is the one that the old one's charge
-- left.
module _ {k k' : ℕ} {caps caps' : List ℕ} (grid : List (List ℕ)) {middle : List (List ℕ)}
    (after : List (List ℕ)) (old : Option Spot) (size : ℕ) {went : Bool} (place : Option ℕ) (same_k : k' ≡ k)
    (same_caps : caps' ≡ caps) (same_mid : middle ≡ between k caps grid old)
    (quiet : went ≡ is_quiet (gone_charged k caps grid old))
    (placed : PlacesNew k' caps' middle size after place) where
  pub outcome_placed : PlacesNew k caps (between k caps grid old) size after place
  outcome_placed =
      subst (λ x. PlacesNew x caps (between k caps grid old) size after place) same_k
      (subst (λ x. PlacesNew k' x (between k caps grid old) size after place) same_caps
      (subst (λ x. PlacesNew k' caps' x size after place) same_mid placed))

  pub outcome_grid : after ≡ (charged_by k caps grid old size).grid
  outcome_grid = placed_grid k caps (between k caps grid old) after size place outcome_placed
      ∙ sym (both_grid k caps grid old size)

  found_is : is_some place ≡ is_quiet (new_charged k caps (between k caps grid old) size)
  found_is = placed_quiet k caps (between k caps grid old) after size place outcome_placed

  -- the change is quiet where both found room
  pub outcome_quiet : is_quiet (charged_by k caps grid old size) ≡ (went && is_some place)
  outcome_quiet = both_quiet k caps grid old size ∙ (λ i. sym quiet i && sym found_is i)

  -- the class that is answered is the trigger
  pub outcome_class : {first class n : ℕ} {found : Bool} → n ≡ size_at old → first ≡ lesser 31 (n, went)
      → found ≡ is_some place → class ≡ lesser first (size, found)
      → class ≡ trigger (charged_by k caps grid old size)
  outcome_class is_size is_first is_found is =
      is ∙ (λ i. lesser ((is_first ∙ (λ j. lesser 31 (is_size j, quiet j))) i)
      (size, (is_found ∙ found_is) i))
      ∙ sym (trigger_is k caps grid old size)
