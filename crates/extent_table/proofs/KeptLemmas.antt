-- The records of what was kept, and the list of the keys that changed, as one more is written.
use Rattle.std.proofs.Common.{◌≡◌, ℕ, zero, suc, ◌+◌, ◌<◌, Bool, true, false, cond, List, [], ◌∷◌, ◌++◌, length, set, get_or, count_by, IsTrue, refl, ap, sym, subst, ◌∙◌, arith}
use Rattle.std.proofs.lemmas.Bool.{cases_eq}
use mathlib.Core.Logic.{⊎_elim}
use Rattle.std.proofs.lemmas.List.{get_or-set_same, get_or-set_other, get_or_append_left, get_or_push, length-set, length_push}
use Rattle.std.proofs.lemmas.List.Sums.{sum_by-cons, sum_by-set, count_by-le-length}
use Rattle.extent_table.specs.declared.kept.Kept.{Kept}
use Rattle.extent_table.specs.declared.kept.Kept.TheVariants.{Same, New, Old}
use Rattle.extent_table.specs.Kept.{kept_in, is_change, AreChanges}
use Rattle.extent_table.specs.Parts.{Lists, Notes}

abbrev one : Kept → ℕ
one k = cond (is_change k) 1 0

-- without any change none is counted
pub count_none : (kept : List Kept) → ((k : ℕ) → kept_in kept k ≡ Same) → count_by is_change kept ≡ 0
count_none [] none = refl
count_none (x ∷ xs) none =
    omega (arith, sum_by-cons one x xs, ap one (none 0), count_none xs (λ k. none (suc k)))

module _ (kept : List Kept) (key : ℕ) (was : Kept) (within : key < length kept)
    (change : is_change was ≡ true) where
  counted : {b : Bool} → is_change (kept_in kept key) ≡ b
      → count_by is_change (set kept key was) + cond b 1 0 ≡ count_by is_change kept + 1
  counted {b} is =
      ap (λ c. count_by is_change (set kept key was) + cond c 1 0) (sym is)
      ∙ sum_by-set one kept key was Same within
      ∙ ap (λ c. count_by is_change kept + cond c 1 0) change

  -- a key that didn't change yet leaves room for itself
  pub room_for_key : is_change (kept_in kept key) ≡ false → count_by is_change kept < length kept
  room_for_key is =
      omega (
        arith,
        counted is,
        count_by-le-length is_change (set kept key was),
        length-set kept key was,
      )

  here : IsTrue (is_change (kept_in (set kept key was) key))
  here = ap is_change (get_or-set_same kept key was Same within) ∙ change

  still : (k : ℕ) → IsTrue (is_change (kept_in kept k)) → IsTrue (is_change (kept_in (set kept key was) k))
  still k is = ⊎_elim
      (λ e. subst (λ n. IsTrue (is_change (kept_in (set kept key was) n))) (sym e) here)
      (λ differs. subst (λ x. IsTrue (is_change x)) (sym (get_or-set_other kept key k was Same differs)) is)
      (cases_eq k key)

  module _ {changed : List ℕ} (h : AreChanges kept changed) where
    pub noted : is_change (kept_in kept key) ≡ false → AreChanges (set kept key was) (changed ++ key ∷ [])
    noted is = record {
      count = omega (arith, counted is, h.count, length_push changed key);
      whole = λ k changes. ⊎_elim
          (λ (e : k ≡ key). (
            length changed,
            omega (arith, length_push changed key),
            get_or_push changed key 0 (length changed) refl ∙ sym e,
          ))
          (λ differs. let p = h.whole k (subst (λ x. IsTrue (is_change x))
          (get_or-set_other kept key k was Same differs) changes) in (
            p.0,
            omega (arith, p.1, length_push changed key),
            get_or_append_left changed (key ∷ []) 0 p.0 p.1 ∙ p.2,
          ))
          (cases_eq k key);
      only = λ i lt. ⊎_elim
          (λ (e : i ≡ length changed). subst (λ k. IsTrue (is_change (kept_in (set kept key was) k)))
          (sym (get_or_push changed key 0 i (sym e))) here)
          (λ apart. let low : i < length changed = omega (arith, lt, apart, length_push changed key) in
          subst (λ k. IsTrue (is_change (kept_in (set kept key was) k)))
          (sym (get_or_append_left changed (key ∷ []) 0 i low)) (still (get_or changed i 0) (h.only i low)))
          (cases_eq i (length changed));
    }

    -- a key that was listed gets another record
    pub noted_again : IsTrue (is_change (kept_in kept key)) → AreChanges (set kept key was) changed
    noted_again is = record {
      count = omega (arith, counted is, h.count);
      whole = λ k changes. ⊎_elim
          (λ (e : k ≡ key). let p = h.whole key is in (p.0, p.1, p.2 ∙ sym e))
          (λ differs. h.whole k (subst (λ x. IsTrue (is_change x))
          (get_or-set_other kept key k was Same differs) changes))
          (cases_eq k key);
      only = λ i lt. still (get_or changed i 0) (h.only i lt);
    }

-- records that say the same, and count as many
pub same_changes : {kept later : List Kept} {changed : List ℕ} → AreChanges kept changed
    → count_by is_change later ≡ count_by is_change kept → ((k : ℕ) → kept_in later k ≡ kept_in kept k)
    → AreChanges later changed
same_changes {changed = changed} h count same = record {
  count = h.count ∙ sym count;
  whole = λ k changes. h.whole k (subst (λ x. IsTrue (is_change x)) (same k) changes);
  only = λ i lt. subst (λ x. IsTrue (is_change x)) (sym (same (get_or changed i 0))) (h.only i lt);
}

-- a key that changed is below the end of the records
pub below_end : (kept : List Kept) (k : ℕ) → IsTrue (is_change (kept_in kept k)) → k < length kept
below_end [] k is = absurd (cc)
below_end (x ∷ xs) zero is = omega arith
below_end (x ∷ xs) (suc k) is = omega (arith, below_end xs k is)

-- a key that is listed, as it is or at the end
pub listed_still : {changed : List ℕ} {key : ℕ} → Lists changed key → Notes changed changed key
listed_still there = record { here = there; before = λ k was. was }

pub listed_last : (changed : List ℕ) (key : ℕ) → Notes changed (changed ++ key ∷ []) key
listed_last changed key = record {
  here = (
    length changed,
    omega (arith, length_push changed key),
    get_or_push changed key 0 (length changed) refl,
  );
  before = λ k was. (
    was.0,
    omega (arith, was.1, length_push changed key),
    get_or_append_left changed (key ∷ []) 0 was.0 was.1 ∙ was.2,
  );
}

-- after all keys that changed were settled none has
pub all_settled : {kept : List Kept} (later : List Kept) {changed : List ℕ} → AreChanges kept changed
    → ((i : ℕ) → i < length changed → kept_in later (get_or changed i 0) ≡ Same)
    → ((k : ℕ) → kept_in kept k ≡ Same → kept_in later k ≡ Same) → (k : ℕ) → kept_in later k ≡ Same
all_settled {kept} later h done same k = by_record (kept_in kept k) refl
  where
    listed : IsTrue (is_change (kept_in kept k)) → kept_in later k ≡ Same
    listed changes = let p = h.whole k changes in ap (kept_in later) (sym p.2) ∙ done p.0 p.1

    by_record : (x : Kept) → kept_in kept k ≡ x → kept_in later k ≡ Same
    by_record Same is = same k is
    by_record New is = listed (ap is_change is)
    by_record (Old s) is = listed (ap is_change is)

-- no change, and none listed
pub nothing_changed : {kept : List Kept} → ((k : ℕ) → kept_in kept k ≡ Same) → AreChanges kept []
nothing_changed {kept} none = record {
  count = sym (count_none kept none);
  whole = λ k changes. absurd (let never = ap is_change (none k) in cc);
  only = λ i lt. absurd (omega (arith, lt));
}
