-- The rate never rises with the class, and what a row and a grid weigh by it is what they weigh by the
-- cost.
use Rattle.std.specs.Prelude.{◌≡◌, ℕ, ◌+◌, ◌-◌, ◌*◌, ◌<◌, ◌≤◌, nat_lt, cond, List, slice_index}
use Rattle.std.proofs.Common.{arith, sym, ◌∙◌, ap, inl, inr}
use Rattle.std.proofs.lemmas.Bool.{cases_lt, cond-true, cond-false, lt-ltb, le-ltb}
use Rattle.byte_ranges.specs.Lists.{sum_below}
use Rattle.size_class.specs.Classes.{width, row, cell}
use Rattle.move_cost.proofs.CostLaws.{rate_falls}
use Rattle.move_cost.specs.Costs.{IsCost, rate, weigh}
use Rattle.segment_layout.proofs.SumLaws.{sum_below_agree, sum_below_zero}
use Rattle.cost_laws.proofs.FewPlaces.{sum_below_less, sum_below_rest}
use Rattle.cost_laws.proofs.Weights.{cells_weight, row_weight, grid_weight}
use Rattle.cost_laws.specs.Cells.{HasNoneFrom}

-- a weight that never rises with the class
abbrev pub Falls : (ℕ → ℕ) → Type 0
Falls r = (i j : ℕ) → i ≤ j → r j ≤ r i

-- the rate of a class, or 0 where there is no such class
abbrev pub rate_below : ℕ → (ℕ → ℕ) → ℕ → ℕ
rate_below C cost c = cond (nat_lt c C) (rate C cost c) 0

pub rate_here : (C : ℕ) (cost : ℕ → ℕ) (c : ℕ) → c < C → rate_below C cost c ≡ rate C cost c
rate_here C cost c low = cond-true (nat_lt c C) (rate C cost c) 0 (lt-ltb c C low)

pub rate_past : (C : ℕ) (cost : ℕ → ℕ) (c : ℕ) → C ≤ c → rate_below C cost c ≡ 0
rate_past C cost c high = cond-false (nat_lt c C) (rate C cost c) 0 (le-ltb c C high)

pub rates_fall : (C : ℕ) (cost : ℕ → ℕ) → IsCost C cost → Falls (rate_below C cost)
rates_fall C cost is i j h =
    elim (cases_lt j C) [
      | inl low ↦
          let e : j ≡ i + (j - i) = omega arith in
          omega (
            arith,
            ap (rate C cost) e,
            rate_falls C cost i (j - i) is (omega arith),
            rate_here C cost i
                (omega arith),
            rate_here C cost j low,
          )
      | inr high ↦ omega (arith, rate_past C cost j high)
    ]

-- a row weighs what its classes below C weigh
pub weigh_is : (C : ℕ) (cost : ℕ → ℕ) (cells : List ℕ) → C ≤ width
    → weigh C cost cells ≡ cells_weight (rate_below C cost) cells
weigh_is C cost cells fits =
    sum_below_agree C (λ c. slice_index cells c * rate C cost c)
    (λ c. slice_index cells c * rate_below C cost c) (λ c h. ap (λ x. slice_index cells c * x)
    (sym (rate_here C cost c h)))
    ∙ sum_below_rest C width (λ c. slice_index cells c * rate_below C cost c) fits
    (λ c h. let z : slice_index cells c * 0 ≡ 0 = omega arith in ap (λ x. slice_index cells c * x)
    (rate_past C cost c h) ∙ z)

-- the entries in buffers below C
abbrev pub weigh_grid : ℕ → (ℕ → ℕ) → List (List ℕ) → ℕ
weigh_grid C cost grid = sum_below C (λ j. weigh C cost (row grid j))

pub weigh_grid_le : (C : ℕ) (cost : ℕ → ℕ) (grid : List (List ℕ)) → C ≤ width
    → weigh_grid C cost grid ≤ grid_weight (rate_below C cost) grid
weigh_grid_le C cost grid fits =
    let r = rate_below C cost in
    omega (
      arith,
      sum_below_agree C (λ j. weigh C cost (row grid j)) (row_weight r grid)
          (λ j h. weigh_is C cost (row grid j) fits),
      sum_below_less C width (row_weight r grid) fits,
    )

pub weigh_grid_is : (C : ℕ) (cost : ℕ → ℕ) (grid : List (List ℕ)) → C ≤ width → HasNoneFrom C grid
    → weigh_grid C cost grid ≡ grid_weight (rate_below C cost) grid
weigh_grid_is C cost grid fits none =
    let r = rate_below C cost in
    sum_below_agree C (λ j. weigh C cost (row grid j)) (row_weight r grid) (λ j h. weigh_is C cost
    (row grid j) fits)
    ∙ sum_below_rest C width (row_weight r grid) fits (λ j h. sum_below_zero width (λ c. cell grid j c * r c)
    (λ c hc. let z : 0 * r c ≡ 0 = omega arith in ap (λ x. x * r c) (none j c h) ∙ z))
