-- What is heavy beside an item that found no room weighs little beside the item, and stands in few classes.
use Rattle.std.specs.Prelude.{◌≡◌, ℕ, zero, suc, ◌+◌, ◌*◌, ◌^◌, ◌<◌, ◌≤◌}
use Rattle.std.proofs.Common.{arith, ap, inl, inr}
use Rattle.std.proofs.lemmas.Nat.{mul-le}
use Rattle.std.proofs.lemmas.Bool.{cases_lt}
use Rattle.byte_ranges.specs.Lists.{sum_below}
use Rattle.size_class.specs.Classes.{width, class_of}
use Rattle.size_class.proofs.ClassLaws.{class_high}
use Rattle.segment_layout.proofs.SumLaws.{inside, inside_here}
use Rattle.cost_laws.proofs.FewPlaces.{few_places}
use Rattle.cost_laws.proofs.Weights.{item_weight}
use Rattle.cost_laws.proofs.RateFalls.{Falls}
use Rattle.cost_laws.proofs.HeavyClasses.{reach, few_classes}

-- what class m weighs at most, where it is heavy beside the item
abbrev pub item_near : (ℕ → ℕ) → ℕ → ℕ → ℕ → ℕ
item_near r k size m = 2 * k * item_weight r size * inside (class_of size) (reach k) m

heavy_item_weight : (k q size r s : ℕ) → q < 2 * k * size → r ≤ s → q * r ≤ 2 * k * (size * s)
heavy_item_weight k q size r s few less =
    let within : q ≤ 2 * k * size = omega arith in
    omega (arith, mul-le q r (2 * k * size) s within less)

some_size : (k size q : ℕ) → q < 2 * k * size → 1 ≤ size
some_size k zero q few = absurd (omega arith)
some_size k (suc n) q few = omega arith

-- the last class has no end, but no class is past it
item_classes : (k m size q : ℕ) → k ≤ 64 → class_of size ≤ m → m < width → q < 2 * k * size → 2 ^ m ≤ q
    → m < class_of size + reach k
item_classes k m size q small low within few some =
    elim (cases_lt (class_of size + 1) width) [
      | inl next ↦ (let high : size < 2 ^ (class_of size + 1) =
          class_high size (some_size k size q few) next in few_classes k m (class_of size) size small
          (omega arith) (omega arith))
      | inr last ↦ omega arith
    ]

pub heavy_item : (r : ℕ → ℕ) (k m size q : ℕ) → Falls r → k ≤ 64 → class_of size ≤ m → m < width
    → q < 2 * k * size → 2 ^ m ≤ q → q * r m ≤ item_near r k size m
heavy_item r k m size q falls small low within few some =
    let weighs : q * r m ≤ 2 * k * item_weight r size =
    heavy_item_weight k q size (r m) (r (class_of size)) few (falls (class_of size) m low) in
    let here : item_near r k size m ≡ 2 * k * item_weight r size * 1 =
    ap (λ x. 2 * k * item_weight r size * x)
    (inside_here (class_of size) (reach k) m low (item_classes k m size q small low within few some)) in
    omega (arith, weighs, here)

pub heavy_items : (r : ℕ → ℕ) (k size : ℕ)
    → sum_below width (item_near r k size) ≤ 2 * k * item_weight r size * reach k
heavy_items r k size = few_places width (class_of size) (reach k) (2 * k * item_weight r size)
