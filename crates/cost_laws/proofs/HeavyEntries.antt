-- What is heavy beside an entry that passed over the buffer weighs little beside the entries of its class:
-- and together, since each class of entries has few classes near it, little beside all entries from the
-- boundary on.
use Rattle.std.specs.Prelude.{◌≡◌, ℕ, ◌+◌, ◌*◌, ◌^◌, ◌<◌, ◌≤◌, List}
use Rattle.std.proofs.Common.{arith, ap}
use Rattle.std.proofs.Math.Nat.{mul-le-mul_left, mul-le-mul_right}
use Rattle.std.proofs.lemmas.Nat.{mul-le}
use Rattle.byte_ranges.specs.Lists.{sum_below}
use Rattle.size_class.specs.Classes.{width}
use Rattle.size_class.proofs.ClassLaws.{power_next}
use Rattle.segment_layout.proofs.SumLaws.{sum_below_le, sum_below_swap, sum_below_times, sum_below_term, inside, inside_here}
use Rattle.cost_laws.proofs.FewPlaces.{few_places}
use Rattle.cost_laws.proofs.Weights.{weight_from}
use Rattle.cost_laws.proofs.RateFalls.{Falls}
use Rattle.cost_laws.specs.Buffers.{PassedOver}
use Rattle.cost_laws.proofs.HeavyClasses.{reach, few_classes}
use Rattle.cost_laws.proofs.EntriesWeigh.{entered_from, entries_weigh, entry_within}

-- what class m weighs at most, where it is heavy beside an entry of class c
abbrev pub entry_near : (ℕ → ℕ) → ℕ → ℕ → List (List ℕ) → ℕ → ℕ → ℕ
entry_near r k b grid m c = 4 * k * (entered_from b grid c * r c) * inside c (reach k) m

heavy_entry_weight : (k q c r s e : ℕ) → q < 2 * k * 2 ^ (c + 1) → r ≤ s → 2 ^ c ≤ e → q * r ≤ 4 * k * (e * s)
heavy_entry_weight k q c r s e few less some =
    let within : q ≤ 2 * k * 2 ^ (c + 1) = omega arith in
    let double : 2 * k * 2 ^ (c + 1) * s ≡ 2 * k * (2 * 2 ^ c) * s = ap (λ x. 2 * k * x * s) (power_next c) in
    omega (
      arith,
      mul-le q r (2 * k * 2 ^ (c + 1)) s within less,
      double,
      mul-le-mul_left (4 * k)
          (mul-le-mul_right s some),
    )

pub heavy_entry : (r : ℕ → ℕ) (k b m q : ℕ) (caps : List ℕ) (grid : List (List ℕ)) → Falls r → k ≤ 64
    → b ≤ m → m < width → (over : PassedOver k caps grid m) → q < 2 * k * 2 ^ (over.class + 1) → 2 ^ m ≤ q
    → q * r m ≤ sum_below width (entry_near r k b grid m)
heavy_entry r k b m q caps grid falls small high within over few some =
    let c = over.class in
    let entry : 2 ^ c ≤ entered_from b grid c = omega (
      arith,
      over.least,
      entry_within b grid over.buffer c
          (omega (arith, over.past)) over.within,
    ) in
    let weighs : q * r m ≤ 4 * k * (entered_from b grid c * r c) =
    heavy_entry_weight k q c (r m) (r c) (entered_from b grid c) few (falls c m over.low) entry in
    let near : m < c + reach k = few_classes k m c (2 ^ (c + 1)) small (omega arith) (omega arith) in
    let here : entry_near r k b grid m c ≡ 4 * k * (entered_from b grid c * r c) * 1 =
    ap (λ x. 4 * k * (entered_from b grid c * r c) * x) (inside_here c (reach k) m over.low near) in
    omega (arith, weighs, here, sum_below_term width c (entry_near r k b grid m) (omega (arith, over.low)))

pub heavy_entries : (r : ℕ → ℕ) (k b : ℕ) (grid : List (List ℕ))
    → sum_below width (λ m. sum_below width (entry_near r k b grid m))
    ≤ reach k * (4 * k * weight_from r b grid)
heavy_entries r k b grid =
    let near = entry_near r k b grid in
    let weigh = λ (c : ℕ). entered_from b grid c * r c in
    let swapped : sum_below width (λ m. sum_below width (near m))
    ≡ sum_below width (λ c. sum_below width (λ m. near m c)) = sum_below_swap width width near in
    let each : sum_below width (λ c. sum_below width (λ m. near m c))
    ≤ sum_below width (λ c. reach k * (4 * k) * weigh c) =
    sum_below_le width (λ c. sum_below width (λ m. near m c)) (λ c. reach k * (4 * k) * weigh c)
    (λ c h. omega (arith, few_places width c (reach k) (4 * k * weigh c))) in
    let all : reach k * (4 * k) * sum_below width weigh
    ≡ sum_below width (λ c. reach k * (4 * k) * weigh c) =
    sum_below_times (reach k * (4 * k)) width weigh in
    let weight : reach k * (4 * k) * sum_below width weigh ≡ reach k * (4 * k) * weight_from r b grid =
    ap (λ x. reach k * (4 * k) * x) (entries_weigh r b grid) in
    omega (arith, swapped, each, all, weight)
