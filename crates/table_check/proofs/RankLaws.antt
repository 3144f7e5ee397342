-- The ranks that pass a test, and what holds of them in whatever order they stand.
use Rattle.std.specs.Prelude.{◌≡◌, ◌≢◌, ℕ, zero, suc, ◌+◌, ◌<◌, ◌≤◌, ◌==◌, Bool, true, false, cond, List, [], ◌∷◌, ◌++◌, length, filter, slice_index, slice_index_or, IsPermutation, refl}
use Rattle.std.specs.List.{IsDistinct}
use Rattle.std.proofs.Common.{arith, ap, sym, ◌∙◌, inl, inr}
use Rattle.std.proofs.lemmas.Bool.{cases_lt, cond-true, cond-false, eqb-false, ne_eqb, eq-eqb, false≢true}
use Rattle.std.proofs.lemmas.Bool.Decides.{eqb_tells}
use Rattle.std.proofs.lemmas.Grind.{get_or_default_zero}
use Rattle.std.proofs.lemmas.List.{append-nil}
use Rattle.std.proofs.lemmas.List.Elements.{filter-append}
use Rattle.std.proofs.lemmas.List.Sorted.{All-permutation, Contains-permutation}
use Rattle.std.proofs.lemmas.Map.Keys.{IsDistinct-IsPermutation, IsDistinct-from_apart, apart_from_distinct}
use Rattle.byte_ranges.specs.Lists.{below, counting_from}
use Rattle.segment_layout.proofs.StepLaws.{below_next}
use Rattle.table_check.specs.Orders.{passing}

pub passing_none : (p : ℕ → Bool) → passing p 0 ≡ []
unfolding below
passing_none p = refl

module _ (p : ℕ → Bool) where
  pub passing_yes : (n : ℕ) → p n ≡ true → passing p (n + 1) ≡ passing p n ++ n ∷ []
  passing_yes n is = ap (filter p) (below_next n) ∙ filter-append p (below n) (n ∷ [])
      ∙ ap (λ xs. filter p (below n) ++ xs) (cond-true (p n) (n ∷ []) [] is)

  pub passing_no : (n : ℕ) → p n ≡ false → passing p (n + 1) ≡ passing p n
  passing_no n isnt = ap (filter p) (below_next n) ∙ filter-append p (below n) (n ∷ [])
      ∙ ap (λ xs. filter p (below n) ++ xs) (cond-false (p n) (n ∷ []) [] isnt)
      ∙ append-nil (filter p (below n))

  -- what is listed, with one number more
  pub listed_yes : {n : ℕ} {old new : List ℕ} → p n ≡ true → new ≡ old ++ n ∷ [] → old ≡ passing p n
      → new ≡ passing p (n + 1)
  listed_yes {n} {old} {new} is more so_far = more ∙ ap (λ xs. xs ++ n ∷ []) so_far ∙ sym (passing_yes n is)

  pub listed_no : {n : ℕ} {old new : List ℕ} → p n ≡ false → new ≡ old → old ≡ passing p n
      → new ≡ passing p (n + 1)
  listed_no {n} {old} {new} isnt same so_far = same ∙ so_far ∙ sym (passing_no n isnt)

  from : ℕ → ℕ → List ℕ
  from first n = filter p (counting_from first n)

  -- a number that passes, in a range
  record Passes (first n i : ℕ) : Type 0 where
    low : first ≤ i
    high : i < first + n
    passed : p i ≡ true

  wider : (first n i : ℕ) → Passes (first + 1) n i → Passes first (suc n) i
  wider first n i h = record { low = omega (arith, h.low); high = omega (arith, h.high); passed = h.passed }

  each : (first n q : ℕ) → q < length (from first n) → Passes first n (slice_index (from first n) q)
  unfolding from
  each first zero q h = absurd (omega arith)
  each first (suc n) q h =
      elim (p first) as (λ b. p first ≡ b → q < length (cond b (first ∷ from (first + 1) n)
      (from (first + 1) n)) → Passes first (suc n) (slice_index (cond b (first ∷ from (first + 1) n)
      (from (first + 1) n)) q)) [
        | true ↦ λ is low. here (λ k below. each (first + 1) n k below) q is low
        | false ↦ λ other low. wider first n (slice_index (from (first + 1) n) q) (each (first + 1) n q low)
      ] refl h
    where
      here : ((k : ℕ) → k < length (from (first + 1) n)
          → Passes (first + 1) n (slice_index (from (first + 1) n) k))
          → (q : ℕ) → p first ≡ true → q < length (first ∷ from (first + 1) n)
          → Passes first (suc n) (slice_index (first ∷ from (first + 1) n) q)
      here later zero is low = record { low = omega arith; high = omega arith; passed = is }
      here later (suc q) is low = wider first n (slice_index (from (first + 1) n) q) (later q (omega arith))

  rise : (first n a b : ℕ) → a < b → b < length (from first n)
      → slice_index (from first n) a < slice_index (from first n) b
  unfolding from
  rise first zero a b less h = absurd (omega arith)
  rise first (suc n) a b' less h =
      elim (p first) as (λ b. p first ≡ b → b' < length (cond b (first ∷ from (first + 1) n)
      (from (first + 1) n)) → slice_index (cond b (first ∷ from (first + 1) n) (from (first + 1) n)) a
      < slice_index (cond b (first ∷ from (first + 1) n) (from (first + 1) n)) b') [
        | true ↦ λ is low. here (λ x y lt top. rise (first + 1) n x y lt top) a b' less low
        | false ↦ λ other low. rise (first + 1) n a b' less low
      ] refl h
    where
      here : ((x y : ℕ) → x < y → y < length (from (first + 1) n)
          → slice_index (from (first + 1) n) x < slice_index (from (first + 1) n) y)
          → (a b : ℕ) → a < b → b < length (first ∷ from (first + 1) n)
          → slice_index (first ∷ from (first + 1) n) a < slice_index (first ∷ from (first + 1) n) b
      here later zero zero less low = absurd (omega arith)
      here later zero (suc b) less low = omega (arith, (each (first + 1) n b (omega arith)).low)
      here later (suc a) zero less low = absurd (omega arith)
      here later (suc a) (suc b) less low = later a b (omega arith) (omega arith)

  complete : (first n i : ℕ) → Passes first n i
      → (q : ℕ) × (q < length (from first n)) × (slice_index (from first n) q ≡ i)
  unfolding from
  complete first zero i h = absurd (omega (arith, h.low, h.high))
  complete first (suc n) i h =
      elim (p first) as (λ b. p first ≡ b → (q : ℕ) × (q < length (cond b (first ∷ from (first + 1) n)
      (from (first + 1) n))) × (slice_index (cond b (first ∷ from (first + 1) n) (from (first + 1) n)) q
      ≡ i)) [
        | true ↦ λ is. elim (cases_lt first i) [
          | inl less ↦ let rest = complete (first + 1) n i (later less) in
              (suc rest.0, omega (arith, rest.1), rest.2)
          | inr most ↦ (0, omega arith, omega (arith, h.low))
        ]
        | false ↦ λ other. elim (cases_lt first i) [
          | inl less ↦ complete (first + 1) n i (later less)
          | inr most ↦ let e : first ≡ i = omega (arith, h.low) in absurd (false≢true (sym other
              ∙ ap p e ∙ h.passed))
        ]
      ] refl
    where
      later : first < i → Passes (first + 1) n i
      later less = record { low = omega arith; high = omega (arith, h.high); passed = h.passed }

  -- ---- in any order

  module _ (n : ℕ) (order : List ℕ) (same : IsPermutation (passing p n) order) where
    pub each_passes : (q : ℕ) → q < length order
        → (slice_index order q < n) × (p (slice_index order q) ≡ true)
    unfolding below from
    each_passes q h = All-permutation (λ i. (i < n) × (p i ≡ true)) (passing p n) order same
        (λ k d low.
        let i = slice_index_or (passing p n) k d in
        let e : i ≡ slice_index (passing p n) k = get_or_default_zero (passing p n) k d low in
        let at = each 0 n k low in
        (omega (arith, e, at.high), ap p e ∙ at.passed)) q 0 h

    pub found : (i : ℕ) → i < n → p i ≡ true → (q : ℕ) × (q < length order) × (slice_index order q ≡ i)
    unfolding below from
    found i low is =
        let at = complete 0 n i (record { low = omega arith; high = omega arith; passed = is }) in
        let there = Contains-permutation (passing p n) order i same
        (at.0, at.1, get_or_default_zero (passing p n) at.0 i at.1 ∙ at.2) in
        (there.0, there.1, sym (get_or_default_zero order there.0 i there.1) ∙ there.2)

    distinct : IsDistinct (λ a b. a == b) order
    unfolding below from
    distinct = IsDistinct-IsPermutation (λ a b. a == b) flips (passing p n) order same
        (IsDistinct-from_apart (λ a b. a == b) (passing p n) (λ i j d less high.
        ne_eqb (slice_index_or (passing p n) i d) (slice_index_or (passing p n) j d) (λ e.
        absurd (omega (
          arith,
          rise 0 n i j less high,
          e,
          get_or_default_zero (passing p n) i d (omega arith),
          get_or_default_zero (passing p n) j d high,
        )))))
      where
        flips : (a b : ℕ) → (a == b) ≡ (b == a)
        flips a b = elim (eqb_tells a b) [
          | inl h ↦ h.0 ∙ sym (eq-eqb b a (sym h.1))
          | inr h ↦ h.0 ∙ sym (ne_eqb b a (λ e. h.1 (sym e)))
        ]

    pub differ : (a b : ℕ) → a < b → b < length order → slice_index order a ≢ slice_index order b
    differ a b less high = eqb-false (slice_index order a) (slice_index order b)
        (apart_from_distinct (λ a b. a == b) order a b 0 distinct less high)
