-- What stands in payload segments from the boundary on weighs at most so many times the entries there, and
-- an item that found no room.
use Rattle.std.specs.Prelude.{◌≡◌, ◌⊎◌, ℕ, ◌+◌, ◌*◌, ◌^◌, ◌<◌, ◌≤◌, List, slice_index}
use Rattle.std.proofs.Common.{arith, ap, inl, inr}
use Rattle.std.proofs.lemmas.Bool.{cases_lt}
use Rattle.byte_ranges.specs.Lists.{sum_below}
use Rattle.size_class.specs.Classes.{width, class_of}
use Rattle.segment_layout.specs.Shapes.{buffer_of, taken_in, boundary_of}
use Rattle.segment_layout.proofs.SumLaws.{sum_below_le, sum_below_add}
use Rattle.segment_layout.specs.Balance.{IsFilled}
use Rattle.cost_laws.proofs.FewPlaces.{from, from-below, from-above}
use Rattle.cost_laws.proofs.Weights.{item_weight, weight_from}
use Rattle.cost_laws.proofs.RateFalls.{Falls}
use Rattle.cost_laws.proofs.NearFull.{near_full}
use Rattle.cost_laws.proofs.PayloadNear.{light_bytes, heavy_bytes}
use Rattle.cost_laws.proofs.HeavyClasses.{reach}
use Rattle.cost_laws.proofs.LightClasses.{light, light_class, light_classes}
use Rattle.cost_laws.proofs.HeavyEntries.{entry_near, heavy_entry, heavy_entries}
use Rattle.cost_laws.proofs.HeavyItem.{item_near, heavy_item, heavy_items}

-- The capacities and the grid of a book after its charges, an item that found no room, and for each class
-- the bytes of its objects in payload segments: none, or at least one object's.
pub record HasMissed (k : ℕ) (caps : List ℕ) (grid : List (List ℕ)) (size : ℕ) (payload : ℕ → ℕ) : Type 0
  where
    pub low : 2 ≤ k
    pub high : k ≤ 64
    pub filled : IsFilled k caps grid
    pub full : (m : ℕ) → class_of size ≤ m → m < width
        → buffer_of k (slice_index caps m) < taken_in grid m + size
    pub within : (m : ℕ) → payload m ≤ slice_index caps m
    pub least : (m : ℕ) → (payload m ≡ 0) ⊎ (2 ^ m ≤ payload m)

module _ (r : ℕ → ℕ) (falls : Falls r) (k : ℕ) (caps : List ℕ) (grid : List (List ℕ)) (size : ℕ) (payload : ℕ
    → ℕ) (h : HasMissed k caps grid size payload) where
  abbrev boundary : ℕ
  boundary = boundary_of grid (class_of size)

  -- a class is light, or heavy beside an entry, or heavy beside the item
  abbrev bound : ℕ → ℕ
  bound m = light r k boundary grid m +
      (sum_below width (entry_near r k boundary grid m) + item_near r k size m)

  -- what kept an entry or the item out decides
  pays_near : (m d : ℕ) → boundary ≤ m → m < width → buffer_of k (slice_index caps m) < taken_in grid m + d
      → (payload m < 2 * k * d → payload m * r m ≤ bound m) → payload m * r m ≤ bound m
  pays_near m d high within near heavy =
      elim (cases_lt (taken_in grid m) d) [
        | inl less ↦ heavy (heavy_bytes k (slice_index caps m) (taken_in grid m) d (payload m)
            (omega (arith, h.low)) near (h.within m) less)
        | inr more ↦
            let few : payload m ≤ 2 * k * taken_in grid m =
            light_bytes k (slice_index caps m) (taken_in grid m) d (payload m)
            (omega (arith, h.low)) near (h.within m) more in
            omega (arith, light_class r k boundary m (payload m) caps grid falls h.filled high within few)
      ]

  pays : (m : ℕ) → boundary ≤ m → m < width → payload m * r m ≤ bound m
  pays m high within =
      elim (h.least m) [
        | inl none ↦ let z : 0 * r m ≡ 0 = omega arith in omega (arith, z, ap (λ x. x * r m) none)
        | inr some ↦ elim (cases_lt m (class_of size)) [
          | inl low ↦
              let over = near_full k caps grid (class_of size) m h.filled high low in
              pays_near m (2 ^ (over.class + 1)) high within over.full
              (λ few. omega (
                arith,
                heavy_entry r k boundary m
                    (payload m) caps grid falls h.high high within over few some,
              ))
          | inr past ↦ pays_near m size high within (h.full m past within)
              (λ few. omega (arith, heavy_item r k m size (payload m) falls h.high past within few some))
        ]
      ]

  pub payload_weighs : sum_below width (from boundary (λ m. payload m * r m))
      ≤ 2 * k * weight_from r boundary grid + reach k * (4 * k * weight_from r boundary grid)
      + 2 * k * item_weight r size * reach k
  payload_weighs =
      let each : sum_below width (from boundary (λ m. payload m * r m)) ≤ sum_below width bound =
      sum_below_le width (from boundary (λ m. payload m * r m)) bound
      (λ m within. elim (cases_lt m boundary) [
        | inl low ↦ omega (arith, from-below boundary m (λ c. payload c * r c) low)
        | inr high ↦ omega (arith, from-above boundary m (λ c. payload c * r c) high, pays m high within)
      ]) in
      omega (
        arith,
        each,
        sum_below_add width (light r k boundary grid) (λ m. sum_below width
            (entry_near r k boundary grid m) + item_near r k size m),
        sum_below_add width (λ m. sum_below width (entry_near r k boundary grid m)) (item_near r k size),
        light_classes r k boundary grid,
        heavy_entries r k boundary grid,
        heavy_items r k size,
      )
