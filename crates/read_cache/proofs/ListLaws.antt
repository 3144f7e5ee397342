-- What holds of each pair of a list, once a pair comes to the front, goes in or goes out.
use Rattle.std.specs.Prelude.{◌≡◌, ℕ, zero, suc, ◌-◌, nat_eq, Bool, true, false, List, [], ◌∷◌, take, Option, Some, None, is_some, refl}
use Rattle.std.proofs.Common.{ap, sym, ◌∙◌, subst, inl, inr}
use Rattle.std.proofs.lemmas.Bool.{cases_Bool, cond-true, cond-false}
use Rattle.std.specs.List.{AllByRecursion, IsDistinct}
use Rattle.std.specs.Cmp.Lexicographic.{pointwise, bytes_decides, nat_list_eq_equiv}
use Rattle.std.specs.Map.{keys_of, lookup, lookup_entry, remove_entry}
use Rattle.std.proofs.lemmas.Map.Entries.{none_past_head}
use Rattle.std.proofs.lemmas.Map.Keys.{IsDistinct-tail}
use Rattle.std.specs.Option.{option_map_or}
use Rattle.lru.specs.LruCache.{LruCache, promoted, put_entries}
use Rattle.lru.proofs.CallerLemmas.{Contains-promoted}
use Rattle.lru.proofs.Splits.{all_at, all_from}
use Rattle.read_cache.specs.Lists.{Listing, Pair, is_name}

module _ (P : Pair → Type 0) where
  pub all_promoted : (test : List ℕ → Bool) (es : List Pair) → AllByRecursion P es
      → AllByRecursion P (promoted test es)
  all_promoted test es all = all_from P (promoted test es)
      (λ e there. all_at P es e all (Contains-promoted test es e there))

  pub all_take : (n : ℕ) (es : List Pair) → AllByRecursion P es → AllByRecursion P (take n es)
  all_take zero es all = tt
  all_take (suc n) [] all = tt
  all_take (suc n) (e ∷ es) all = (all.0, all_take n es all.1)

-- each pair that is left has another name
pub all_others : (P Q : Pair → Type 0) (name : List ℕ) (es : List Pair)
    → IsDistinct (pointwise nat_eq) (keys_of es) → AllByRecursion P es
    → ((e : Pair) → is_name name e.0 ≡ false → P e → Q e)
    → AllByRecursion Q (remove_entry (is_name name) es)
all_others P Q name [] distinct all step = tt
all_others P Q name (e ∷ es) distinct all step = elim (cases_Bool (is_name name e.0))
    as (λ _. AllByRecursion Q (remove_entry (is_name name) (e ∷ es))) [
      | inl same ↦ subst (λ (xs : List Pair). AllByRecursion Q xs)
          (sym (cond-true (is_name name e.0) es (e ∷ remove_entry (is_name name) es) same))
          (others es all.1 (none_past_head nat_list_eq_equiv name e es distinct same))
      | inr other ↦ subst (λ (xs : List Pair). AllByRecursion Q xs)
          (sym (cond-false (is_name name e.0) es (e ∷ remove_entry (is_name name) es) other)) (
            step e other all.0,
            all_others P Q name es
                (IsDistinct-tail (pointwise nat_eq) e.0 (keys_of es) distinct) all.1 step,
          )
    ]
  where
    others : (xs : List Pair) → AllByRecursion P xs
        → AllByRecursion (λ x. is_name name x.0 ≡ false) xs → AllByRecursion Q xs
    others [] all none = tt
    others (x ∷ xs) all none = (step x none.0 all.0, others xs all.1 none.1)

-- what is found is of a pair
pub found_pair : (P : Pair → Type 0) (name object : List ℕ) (es : List Pair) → AllByRecursion P es
    → lookup (is_name name) es ≡ Some object → P (name, object)
found_pair P name object [] all is = absurd (cc)
found_pair P name object (e ∷ es) all is = elim (cases_Bool (is_name name e.0))
    as (λ _. P (name, object)) [
      | inl same ↦
          let key : name ≡ e.0 = (bytes_decides name e.0).0 same in
          let value : e.1 ≡ object =
          (let h : Some e.1 ≡ Some object = sym (cond-true (is_name name e.0) (Some e.1)
          (lookup (is_name name) es) same) ∙ is in cc) in
          subst (λ (o : List ℕ). P (name, o)) value (subst (λ (n : List ℕ). P (n, e.1)) (sym key) all.0)
      | inr other ↦ found_pair P name object es all.1
          (sym (cond-false (is_name name e.0) (Some e.1) (lookup (is_name name) es) other) ∙ is)
    ]

-- ---- names that aren't listed

entry_none : (test : List ℕ → Bool) (es : List Pair) → is_some (lookup test es) ≡ false
    → lookup_entry test es ≡ None
entry_none test [] out = refl
entry_none test (e ∷ es) out = elim (cases_Bool (test e.0)) as (λ _. lookup_entry test (e ∷ es) ≡ None) [
  | inl same ↦ absurd (let bad : true ≡ false = sym (ap is_some (cond-true (test e.0) (Some e.1)
      (lookup test es) same)) ∙ out in cc)
  | inr other ↦ cond-false (test e.0) (Some e) (lookup_entry test es) other
      ∙ entry_none test es (sym (ap is_some (cond-false (test e.0) (Some e.1) (lookup test es) other)) ∙ out)
]

pub promoted_none : (test : List ℕ → Bool) (es : List Pair) → is_some (lookup test es) ≡ false
    → promoted test es ≡ es
promoted_none test es out = ap (λ (o : Option Pair). option_map_or (λ e. e ∷ remove_entry test es) o es)
    (entry_none test es out)

pub put_new : (c : LruCache (List ℕ) (List ℕ)) (k v : List ℕ) → lookup (is_name k) c.entries ≡ None
    → put_entries (pointwise nat_eq) c k v ≡ (k, v) ∷ take (c.cap - 1) c.entries
put_new c k v none = ap (λ (o : Option Pair).
    option_map_or (λ e. (e.0, v) ∷ remove_entry (is_name k) c.entries)
    o ((k, v) ∷ take (c.cap - 1) c.entries)) (entry_none (is_name k) c.entries (ap is_some none))

-- a list with its counts
abbrev pub listing_at : ℕ → ℕ → ℕ → LruCache (List ℕ) (List ℕ) → Listing
listing_at hits misses drops c =
    record { pairs = c.entries; room = c.cap; hits = hits; misses = misses; drops = drops }

-- ---- hits

entry_some : (test : List ℕ → Bool) (es : List Pair) (e : Pair) → lookup_entry test es ≡ Some e
    → (test e.0 ≡ true) × (lookup test es ≡ Some e.1)
entry_some test [] e is = absurd (cc)
entry_some test (f ∷ es) e is = elim (cases_Bool (test f.0))
    as (λ _. (test e.0 ≡ true) × (lookup test (f ∷ es) ≡ Some e.1)) [
      | inl same ↦
          let h : Some f ≡ Some e = sym (cond-true (test f.0) (Some f) (lookup_entry test es) same) ∙ is in
          let one : f ≡ e = cc in (
            subst (λ (x : Pair). test x.0 ≡ true) one same,
            cond-true (test f.0) (Some f.1) (lookup test es) same ∙ ap (λ (x : Pair). Some x.1) one,
          )
      | inr other ↦
          let rest = entry_some test es e
          (sym (cond-false (test f.0) (Some f) (lookup_entry test es) other) ∙ is) in
          (rest.0, cond-false (test f.0) (Some f.1) (lookup test es) other ∙ rest.1)
    ]

-- what comes to the front is what was listed
pub lookup-promoted : (test : List ℕ → Bool) (es : List Pair)
    → lookup test (promoted test es) ≡ lookup test es
lookup-promoted test es = by (lookup_entry test es) refl
  where
    by : (o : Option Pair) → lookup_entry test es ≡ o
        → lookup test (option_map_or (λ e. e ∷ remove_entry test es) o es) ≡ lookup test es
    by None is = refl
    by (Some e) is =
        let found = entry_some test es e is in
        cond-true (test e.0) (Some e.1) (lookup test (remove_entry test es)) found.0 ∙ sym found.1

-- what is found where something is
pub some_found : (o : Option (List ℕ)) → is_some o ≡ true → (object : List ℕ) × (o ≡ Some object)
some_found None some = absurd (cc)
some_found (Some object) some = (object, refl)
