-- The calls that move bytes, of a row of bytes by class: those of div_sum, and those by what the row weighs.
use Rattle.std.specs.Prelude.{◌≡◌, ℕ, ◌+◌, ◌-◌, ◌*◌, ◌/◌, ◌^◌, ◌<◌, ◌≤◌, List, slice_index}
use Rattle.std.proofs.Common.{arith, ◌∙◌, ap, inl, inr}
use Rattle.std.proofs.Math.Nat.{add-mul, div-mul-le_self, le-div_iff_mul-le, mul-le-mul_left, mul-le-mul_right, one-le-pow}
use Rattle.std.proofs.lemmas.Bool.{cases_lt}
use Rattle.std.proofs.lemmas.Nat.{pow-add}
use Rattle.byte_ranges.specs.Lists.{sum_below}
use Rattle.byte_ranges.proofs.ListLaws.{map_below-index}
use Rattle.size_class.specs.Classes.{width}
use Rattle.segment_layout.proofs.SumLaws.{sum_below_add, sum_below_agree, sum_below_le, sum_below_times}
use Rattle.cost_laws.proofs.FewPlaces.{sum_below_rest}
use Rattle.flush_run.specs.Calls.{class_calls, move_calls, risen, row_rise}
use Rattle.move_cost.specs.Costs.{flat, linear, rate, weigh}
use Rattle.flush_run.proofs.CallLaws.{div_sum, class_calls_sum}

-- ---- div_sum

-- the calls of what a row had, and of what it rose by, are at most those of all of it
pub calls_add : (old new : List ℕ) → ((c : ℕ) → slice_index old c ≤ slice_index new c)
    → move_calls old + move_calls (risen old new) ≤ move_calls new
calls_add old new later =
    let before = λ (c : ℕ). class_calls c (slice_index old c) in
    let more = λ (c : ℕ). class_calls c (slice_index (risen old new) c) in
    omega (
      arith,
      sum_below_add width before more,
      sum_below_le width (λ c. before c + more c) (λ c. class_calls c (slice_index new c)) each,
    )
  where
    each : (c : ℕ) → c < width → class_calls c (slice_index old c) + class_calls c (slice_index
        (risen old new) c)
        ≤ class_calls c (slice_index new c)
    each c low =
        let rose : slice_index (risen old new) c ≡ slice_index new c - slice_index old c =
        map_below-index (row_rise old new) width c low in
        let all : slice_index old c + slice_index (risen old new) c ≡ slice_index new c =
        omega (arith, rose, later c) in
        omega (
          arith,
          class_calls_sum c (slice_index old c) (slice_index (risen old new) c),
          ap (class_calls c) all,
        )

-- ---- by weight

-- a byte of a class costs the least part of an object of that class
pow_split : (C c : ℕ) → c < C → 2 ^ (C - 1) ≡ 2 ^ c * 2 ^ (C - 1 - c)
pow_split C c low =
    let split : C - 1 ≡ c + (C - 1 - c) = omega (arith, low) in
    ap (λ (n : ℕ). 2 ^ n) split ∙ pow-add 2 c (C - 1 - c)

module _ (C : ℕ) (low : C ≤ width) (row : List ℕ) where
  -- each byte weighs the same by the linear cost
  pub linear_weighs : sum_below C (slice_index row) * 2 ^ (C - 1) ≡ weigh C linear row
  linear_weighs =
      let scaled : 2 ^ (C - 1) * sum_below C (slice_index row)
      ≡ sum_below C (λ c. 2 ^ (C - 1) * slice_index row c) = sum_below_times (2 ^ (C - 1)) C
      (slice_index row) in
      let same : sum_below C (λ c. 2 ^ (C - 1) * slice_index row c) ≡ weigh C linear row =
      sum_below_agree C (λ c. 2 ^ (C - 1) * slice_index row c) (λ c. slice_index row c * rate C linear c)
      (λ c h. omega (arith, ap (λ (n : ℕ). n * slice_index row c) (pow_split C c h))) in
      omega (arith, scaled, same)

  module _ (zeros : (c : ℕ) → C ≤ c → slice_index row c ≡ 0) where
    least : (c : ℕ) → 2 ^ (C - 1) * (slice_index row c / 2 ^ c) ≤ slice_index row c * rate C flat c
    least c = elim (cases_lt c C) [
      | inl h ↦ omega (
        arith,
        ap (λ (n : ℕ). n * (slice_index row c / 2 ^ c)) (pow_split C c h),
        mul-le-mul_right (2 ^ (C - 1 - c)) (div-mul-le_self (slice_index row c) (2 ^ c)),
      )
      | inr past ↦
          let none : slice_index row c / 2 ^ c ≡ 0 = ap (λ (n : ℕ). n / 2 ^ c) (zeros c past) ∙ nothing c in
          omega (arith, ap (λ (n : ℕ). 2 ^ (C - 1) * n) none)
    ]
      where
        nothing : (c : ℕ) → 0 / 2 ^ c ≡ 0
        nothing c =
            let x : 0 / 2 ^ c * 2 ^ c ≤ 0 = div-mul-le_self 0 (2 ^ c) in
            let y : 0 / 2 ^ c ≤ 0 / 2 ^ c * 2 ^ c =
            omega (arith, mul-le-mul_left (0 / 2 ^ c) (one-le-pow c 2 (omega arith))) in
            omega (arith, x, y)

    objects : sum_below width (λ c. slice_index row c / 2 ^ c) ≤ weigh C flat row / 2 ^ (C - 1)
    objects =
        let f = λ (c : ℕ). slice_index row c / 2 ^ c in
        (le-div_iff_mul-le (omega (arith, one-le-pow (C - 1) 2 (omega arith)))).1 (omega (
          arith,
          sum_below_times (2 ^ (C - 1)) width f,
          sum_below_le width (λ c. 2 ^ (C - 1) * f c) (λ c. slice_index row c * rate C flat c)
              (λ c h. least c),
          sum_below_rest C width (λ c. slice_index row c * rate C flat c) low (λ c past.
              let none : 0 * rate C flat c ≡ 0 = omega arith in
              ap (λ (n : ℕ). n * rate C flat c) (zeros c past) ∙ none),
        ))

    pieces : sum_below width (λ c. slice_index row c / 65536) ≤ sum_below C (slice_index row) / 65536
    pieces =
        let f = λ (c : ℕ). slice_index row c / 65536 in
        let some : 0 < 65536 = omega arith in
        (le-div_iff_mul-le some).1 (omega (
          arith,
          sum_below_times 65536 width f,
          sum_below_le width (λ c. 65536 * f c) (slice_index row) (λ c h.
              omega (arith, div-mul-le_self (slice_index row c) 65536)),
          sum_below_rest C width (slice_index row) low zeros,
        ))

    -- the calls that moved a row: an object at least of each class's least size, and 65,536 bytes at most
    pub calls_by_weight : move_calls row
        ≤ weigh C flat row / 2 ^ (C - 1) + sum_below C (slice_index row) / 65536
    calls_by_weight = omega (
      arith,
      sum_below_add width (λ c. slice_index row c / 2 ^ c) (λ c. slice_index row c / 65536),
      objects,
      pieces,
    )
