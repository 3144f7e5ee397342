-- A byte of a higher class weighs no more, and none weighs more than 2^51: so a row's weight fits 128 bits.
use Rattle.std.specs.Prelude.{◌≡◌, ℕ, zero, suc, ◌+◌, ◌-◌, ◌*◌, ◌^◌, ◌%◌, ◌<◌, ◌≤◌, map, sum, refl}
use Rattle.std.proofs.Common.{arith, ◌∙◌, ap, inl, inr}
use Rattle.std.proofs.lemmas.Bool.{cases_lt}
use Rattle.std.proofs.Math.Nat.{mul-le-mul_right}
use Rattle.std.proofs.lemmas.Nat.{mul-le}
use Rattle.std.proofs.lemmas.List.Sums.{sum_by-cons}
use Rattle.byte_ranges.specs.Lists.{below, counting_from, sum_below}
use Rattle.size_class.proofs.ClassLaws.{power_rises, power_next}
use Rattle.move_cost.specs.Costs.{IsCost, rate}

rate_falls_once : (C : ℕ) (cost : ℕ → ℕ) (c : ℕ) → IsCost C cost → c + 1 < C
    → rate C cost (c + 1) ≤ rate C cost c
rate_falls_once C cost c is low =
    let next : C - 1 - c ≡ C - 1 - (c + 1) + 1 = omega arith in
    let double : 2 ^ (C - 1 - c) ≡ 2 * 2 ^ (C - 1 - (c + 1)) =
    ap (λ x. 2 ^ x) next ∙ power_next (C - 1 - (c + 1)) in
    let here : rate C cost c ≡ cost c * (2 * 2 ^ (C - 1 - (c + 1))) = ap (λ x. cost c * x) double in
    omega (arith, here, mul-le-mul_right (2 ^ (C - 1 - (c + 1))) (is.slowly c low))

pub rate_falls : (C : ℕ) (cost : ℕ → ℕ) (c n : ℕ) → IsCost C cost → c + n < C
    → rate C cost (c + n) ≤ rate C cost c
rate_falls C cost c zero is low = let e : c + 0 ≡ c = omega arith in omega (arith, ap (rate C cost) e)
rate_falls C cost c (suc n) is low =
    let e : c + suc n ≡ c + n + 1 = omega arith in
    omega (
      arith,
      ap (rate C cost) e,
      rate_falls C cost c n is (omega arith),
      rate_falls_once C cost
          (c + n) is (omega arith),
    )

pub rate_high : (C : ℕ) (cost : ℕ → ℕ) (c : ℕ) → IsCost C cost → c < C → C ≤ 32 → rate C cost c ≤ 2 ^ 51
rate_high C cost c is low fits =
    let at : 0 + c ≡ c = omega arith in
    let power : 2 ^ (C - 1 - 0) ≤ 2 ^ 31 = power_rises (C - 1 - 0) 31 (omega arith) in
    let all : (2 ^ 20) * (2 ^ 31) ≡ 2 ^ 51 = refl in
    omega (
      arith,
      rate_falls C cost 0 c is (omega arith),
      ap (rate C cost) at,
      mul-le (cost 0)
          (2 ^ (C - 1 - 0)) (2 ^ 20) (2 ^ 31) is.fits power,
      all,
    )

sum_next : (f : ℕ → ℕ) (first n : ℕ)
    → sum (map f (counting_from first (n + 1))) ≡ sum (map f (counting_from first n)) + f (first + n)
sum_next f first zero = let e : first ≡ first + 0 = omega arith in let g : f first ≡ f (first + 0) =
    ap f e in omega (arith, g, sum_by-cons (λ x. x) (f first) (map f (counting_from (first + 1) 0)))
sum_next f first (suc n) =
    let e : suc n + 1 ≡ suc (n + 1) = omega arith in
    let whole : sum (map f (counting_from first (suc n + 1)))
    ≡ sum (map f (counting_from first (suc (n + 1)))) =
    ap (λ x. sum (map f (counting_from first x))) e in
    let at : first + 1 + n ≡ first + suc n = omega arith in
    omega (
      arith,
      whole,
      ap f at,
      sum_by-cons (λ x. x) (f first) (map f (counting_from (first + 1) (n + 1))),
      sum_by-cons (λ x. x) (f first) (map f (counting_from (first + 1) n)),
      sum_next f (first + 1) n,
    )

-- a sum over one number more
pub sum_below_next : (n : ℕ) (f : ℕ → ℕ) → sum_below (n + 1) f ≡ sum_below n f + f n
unfolding sum_below below
sum_below_next n f = let e : 0 + n ≡ n = omega arith in omega (arith, sum_next f 0 n, ap f e)

pub sum_below_none : (f : ℕ → ℕ) → sum_below 0 f ≡ 0
unfolding sum_below below
sum_below_none f = refl

pub small_power : (n : ℕ) → 2 ^ n < 2 * 64 → n < 7
small_power n less = elim (cases_lt n 7) [
  | inl h ↦ h
  | inr high ↦ absurd (let e : 2 ^ 7 ≡ 2 * 64 =
      refl in omega (arith, power_rises 7 n high))
]

-- ---- the weight of fewer than 2^64 bytes of a class

pub unit_is : (n : ℕ) → n < 32 → 1 * 2 ^ n % 340282366920938463463374607431768211456 ≡ 2 ^ n
unit_is n low = omega (arith, power_rises n 31 (omega arith))

pub part_high : (C : ℕ) (cost : ℕ → ℕ) (c bytes price unit : ℕ) → IsCost C cost → c < C → C ≤ 32
    → bytes < 2 ^ 64 → price ≡ cost c → unit ≡ 2 ^ (C - 1 - c) → bytes * (price * unit) < 2 ^ 115
part_high C cost c bytes price unit is low fits few at_price at_unit =
    let same : price * unit ≡ rate C cost c = λ i. at_price i * at_unit i in
    omega (
      arith,
      mul-le bytes (price * unit) (2 ^ 64 - 1) (2 ^ 51) (omega arith)
          (omega (arith, same, rate_high C cost c is low fits)),
    )
