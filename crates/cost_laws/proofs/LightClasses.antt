-- A class whose buffer has taken more than what kept an entry or an item out weighs little beside the
-- buffer's entries.
use Rattle.std.specs.Prelude.{◌≡◌, ℕ, ◌*◌, ◌<◌, ◌≤◌, List}
use Rattle.std.proofs.Common.{arith, sym, ap}
use Rattle.std.proofs.Math.Nat.{mul-le-mul_left, mul-le-mul_right}
use Rattle.byte_ranges.specs.Lists.{sum_below}
use Rattle.size_class.specs.Classes.{width}
use Rattle.segment_layout.specs.Shapes.{taken_in}
use Rattle.segment_layout.proofs.SumLaws.{sum_below_times}
use Rattle.segment_layout.specs.Balance.{IsFilled}
use Rattle.cost_laws.proofs.FewPlaces.{from, from-above}
use Rattle.cost_laws.proofs.Weights.{row_weight, weight_from}
use Rattle.cost_laws.proofs.RateFalls.{Falls}
use Rattle.cost_laws.proofs.EntriesWeigh.{taken_weighs}

-- what a class weighs at most, where it is light
abbrev pub light : (ℕ → ℕ) → ℕ → ℕ → List (List ℕ) → ℕ → ℕ
light r k b grid m = 2 * k * from b (row_weight r grid) m

light_weight : (k q t r w : ℕ) → q ≤ 2 * k * t → t * r ≤ w → q * r ≤ 2 * k * w
light_weight k q t r w few less = omega (arith, mul-le-mul_right r few, mul-le-mul_left (2 * k) less)

pub light_class : (r : ℕ → ℕ) (k b m q : ℕ) (caps : List ℕ) (grid : List (List ℕ)) → Falls r
    → IsFilled k caps grid → b ≤ m → m < width → q ≤ 2 * k * taken_in grid m → q * r m ≤ light r k b grid m
light_class r k b m q caps grid falls f high within few =
    let weighs : q * r m ≤ 2 * k * row_weight r grid m =
    light_weight k q (taken_in grid m) (r m) (row_weight r grid m) few
    (taken_weighs r grid m falls f.grid_full f.lower within) in
    omega (arith, weighs, ap (λ x. 2 * k * x) (from-above b m (row_weight r grid) high))

-- all of them together
pub light_classes : (r : ℕ → ℕ) (k b : ℕ) (grid : List (List ℕ))
    → sum_below width (light r k b grid) ≡ 2 * k * weight_from r b grid
light_classes r k b grid = sym (sum_below_times (2 * k) width (from b (row_weight r grid)))
