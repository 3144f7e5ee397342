-- Sums of functions that are 0 but for few numbers in a row, or below a number.
use Rattle.std.specs.Prelude.{◌≡◌, ℕ, zero, suc, ◌+◌, ◌-◌, ◌*◌, ◌<◌, ◌≤◌, nat_le, cond, map, refl}
use Rattle.std.proofs.Common.{arith, sym, ◌∙◌, ap, inl, inr}
use Rattle.std.proofs.Math.Nat.{mul-le-mul_left}
use Rattle.std.proofs.lemmas.List.Sums.{sum_by-cons}
use Rattle.std.proofs.lemmas.Bool.{cases_lt, cond-true, cond-false, le-leb, lt-leb}
use Rattle.byte_ranges.specs.Lists.{counting_from, sum_below}
use Rattle.segment_layout.proofs.SumLaws.{sum_from, sum_from_split, sum_below_is, sum_below_agree, sum_below_zero, sum_below_times, inside, inside_here, inside_below, sum_below_inside}

-- at most n numbers lie among the n from a first one on
pub few_ones : (all first n : ℕ) → sum_below all (inside first n) ≤ n
few_ones all first n =
    elim (cases_lt all (first + n)) [
      | inr fits ↦ omega (arith, sum_below_inside all first n fits)
      | inl over ↦ elim (cases_lt first all) [
        | inl low ↦
            let rest = all - first in
            let same : sum_below all (inside first n) ≡ sum_below all (inside first rest) =
            sum_below_agree all (inside first n) (inside first rest) (λ i h. elim (cases_lt i first) [
              | inl less ↦ inside_below first n i less ∙ sym (inside_below first rest i less)
              | inr more ↦ inside_here first n i more (omega arith)
                  ∙ sym (inside_here first rest i more (omega arith))
            ]) in
            omega (arith, same, sum_below_inside all first rest (omega arith))
        | inr past ↦ omega (
          arith,
          sum_below_zero all (inside first n) (λ i h. inside_below first n i
              (omega arith)),
        )
      ]
    ]

-- a function that is at most x at n numbers in a row, and else 0
pub few_places : (all first n x : ℕ) → sum_below all (λ m. x * inside first n m) ≤ x * n
few_places all first n x = omega (
  arith,
  sum_below_times x all (inside first n),
  mul-le-mul_left x
      (few_ones all first n),
)

-- a function, from a number on
abbrev pub from : ℕ → (ℕ → ℕ) → ℕ → ℕ
from b f j = cond (nat_le b j) (f j) 0

pub from-below : (b j : ℕ) (f : ℕ → ℕ) → j < b → from b f j ≡ 0
from-below b j f low = cond-false (nat_le b j) (f j) 0 (lt-leb b j low)

pub from-above : (b j : ℕ) (f : ℕ → ℕ) → b ≤ j → from b f j ≡ f j
from-above b j f high = cond-true (nat_le b j) (f j) 0 (le-leb b j high)

-- ---- sums in two parts

sum_from_none : (first n : ℕ) (f : ℕ → ℕ) → ((i : ℕ) → first ≤ i → f i ≡ 0) → sum_from first n f ≡ 0
sum_from_none first zero f none = refl
sum_from_none first (suc n) f none =
    omega (
      arith,
      sum_by-cons (λ y. y) (f first) (map f (counting_from (first + 1) n)),
      none first (omega arith),
      sum_from_none (first + 1) n f (λ i low. none i (omega arith)),
    )

sum_below_split : (n m : ℕ) (f : ℕ → ℕ) → sum_below (n + m) f ≡ sum_below n f + sum_from n m f
sum_below_split n m f =
    let at : 0 + n ≡ n = omega arith in
    omega (
      arith,
      sum_below_is (n + m) f,
      sum_below_is n f,
      sum_from_split 0 n m f,
      ap (λ x. sum_from x m f) at,
    )

-- a sum over fewer numbers is less
pub sum_below_less : (n all : ℕ) (f : ℕ → ℕ) → n ≤ all → sum_below n f ≤ sum_below all f
sum_below_less n all f h = let e : all ≡ n + (all - n) =
    omega arith in omega (arith, ap (λ x. sum_below x f) e, sum_below_split n (all - n) f)

-- and the same, where the function is 0 from there on
pub sum_below_rest : (n all : ℕ) (f : ℕ → ℕ) → n ≤ all → ((i : ℕ) → n ≤ i → f i ≡ 0)
    → sum_below n f ≡ sum_below all f
sum_below_rest n all f h none = let e : all ≡ n + (all - n) =
    omega arith in omega (
      arith,
      ap (λ x. sum_below x f) e,
      sum_below_split n (all - n) f,
      sum_from_none n
          (all - n) f none,
    )
