-- What the steps of a flush move from a moment on: at most as many bytes as are left to move then.
use Rattle.std.specs.Prelude.{◌≡◌, ◌≢◌, ℕ, ◌+◌, ◌-◌, ◌^◌, ◌≤◌, min, Bool, true, false, List, [], ◌∷◌, length, slice_index, slice_set, Some}
use Rattle.std.proofs.Common.{arith, ap, sym, ◌∙◌, subst, inl, inr}
use Rattle.std.proofs.lemmas.Bool.{cases_lt}
use Rattle.std.proofs.lemmas.List.{get_or-set_other, get_or-set_same, get_or_past, length-set}
use Rattle.disk_face.specs.States as disk
use Rattle.size_class.specs.Classes.{class_of, width}
use Rattle.size_class.proofs.ClassLaws.{class_below}
use Rattle.segment_layout.proofs.SumLaws.{sum_below_add, sum_below_le, sum_below_one, sum_below_zero}
use Rattle.flush_run.specs.Calls.{IsOpenRow, row_rise}
use Rattle.store_model.specs.Facts.{bytes_left_of, risen_by}
use Rattle.store_model.proofs.BytesLeftLaws.{risen_none}
use Rattle.store_model.specs.Connection.{FlushInHand, StoreValue}
use Rattle.store_model.specs.Quiet.{added}
use Rattle.sliced_laws.specs.Sliced.{GoesThrough, Pass, Passes, Point}

-- ---- what a row rises by

risen_then : (a b c : List ℕ) → risen_by a c ≤ risen_by a b + risen_by b c
risen_then a b c = omega (
  arith,
  sum_below_le width (row_rise a c) (λ i. row_rise a b i + row_rise b c i) (λ i low. omega arith),
  sum_below_add width (row_rise a b) (row_rise b c),
)

module _ (row : List ℕ) (size : ℕ) where
  abbrev d : ℕ
  d = class_of size

  abbrev more : ℕ
  more = min (slice_index row d + size) (2 ^ 64 - 1)

  here : row_rise row (added row size) d ≤ size
  here = elim (cases_lt d (length row)) [
    | inl long ↦ omega (arith, get_or-set_same row d more 0 long)
    | inr past ↦ omega (
      arith,
      get_or_past (slice_set row d more) d 0 (omega (arith, past, length-set row d more)),
    )
  ]

  elsewhere : (c : ℕ) → c ≢ d → row_rise row (added row size) c ≡ 0
  elsewhere c other = omega (arith, get_or-set_other row d c more 0 other)

  risen_added : risen_by row (added row size) ≤ size
  risen_added = omega (
    arith,
    sum_below_one width d (row_rise row (added row size)) (λ c. 0) (class_below size) elsewhere,
    sum_below_zero width (λ c. 0) (λ c low. omega arith),
    here,
  )

-- ---- one pass after another

-- No number of the ledger stood at its last value then, and what it gained since is no longer left.
record MovesWithin (s t : StoreValue) : Type 0 where
  pub low : IsOpenRow s.moved
  pub less : risen_by s.moved t.moved + bytes_left_of t ≤ bytes_left_of s

same_within : (s t : StoreValue) → t ≡ s → IsOpenRow t.moved → MovesWithin s t
same_within s t same free = record {
  low = λ c. omega (arith, free c, ap (λ (x : StoreValue). slice_index x.moved c) same);
  less = omega (
    arith,
    risen_none s.moved t.moved (ap (λ (x : StoreValue). x.moved) same),
    ap bytes_left_of same,
  );
}

module _ {D : Type 0} (state : D → disk.State) (C : ℕ) where
  hand_after : (is_step : Bool) (p q : Point D) (h : FlushInHand) → p.store.in_hand ≡ Some h
      → Passes state C is_step p q → (k : FlushInHand) × (q.store.in_hand ≡ Some k)
  hand_after true p q h is pass =
      let m = pass.makes h is in
      (record h { left = m.left }, m.in_hand)
  hand_after false p q h is pass = (h, ap (λ (x : StoreValue). x.in_hand) pass.same_store ∙ is)

  one_within : (is_step : Bool) (p q : Point D) (h : FlushInHand) → p.store.in_hand ≡ Some h
      → Passes state C is_step p q → IsOpenRow q.store.moved → MovesWithin p.store q.store
  one_within true p q h is pass free =
      let m = pass.makes h is in
      let later = (pass.sums h is).calls.later free in
      record {
        low = λ c. omega (arith, later c, free c);
        less = omega (
          arith,
          m.bytes free,
          subst (λ r. risen_by p.store.moved r ≤ m.spot.size) (sym m.row)
              (risen_added p.store.moved m.spot.size),
        );
      }
  one_within false p q h is pass free = same_within p.store q.store pass.same_store free

  all_within : (passes : List (Pass D)) (p q : Point D) (h : FlushInHand) → p.store.in_hand ≡ Some h
      → GoesThrough state C p passes q → IsOpenRow q.store.moved → MovesWithin p.store q.store
  all_within [] p q h is goes free =
      same_within p.store q.store (ap (λ (x : Point D). x.store) goes) free
  all_within (pass ∷ passes) p q h is goes free =
      let hand = hand_after pass.is_step p pass.after h is goes.0 in
      let rest = all_within passes pass.after q hand.0 hand.1 goes.1 free in
      let one = one_within pass.is_step p pass.after h is goes.0 rest.low in
      record {
        low = one.low;
        less = omega (
          arith,
          one.less,
          rest.less,
          risen_then p.store.moved pass.after.store.moved q.store.moved,
        );
      }

  pub moves_within : (passes : List (Pass D)) (p q : Point D) (h : FlushInHand) → p.store.in_hand ≡ Some h
      → GoesThrough state C p passes q → IsOpenRow q.store.moved
      → risen_by p.store.moved q.store.moved + bytes_left_of q.store ≤ bytes_left_of p.store
  moves_within passes p q h is goes free = (all_within passes p q h is goes free).less
