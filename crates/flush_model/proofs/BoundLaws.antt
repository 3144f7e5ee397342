-- The numbers of a flush are numbers of 64 bits, and each of its items is of a class that the layout has.
use Rattle.std.specs.Prelude.{◌≡◌, ℕ, zero, suc, ◌+◌, ◌-◌, ◌*◌, ◌^◌, ◌<◌, ◌≤◌, max, not, Bool, List, [], ◌∷◌, slice_index, Contains, filter, sum_by, ◌==◌, length, refl}
use Rattle.std.proofs.Common.{arith, ap, inl, inr}
use Rattle.std.proofs.lemmas.Bool.{cases_eq, cases_lt, cond-false, ne_eqb}
use Rattle.std.proofs.lemmas.List.Sums.{sum_by-cons}
use Rattle.std.proofs.Math.Nat.{div-le_self, max-le, mul-le-mul_right}
use Rattle.byte_ranges.specs.Lists.{counting_from}
use Rattle.size_class.specs.Classes.{IsRow, width, class_of}
use Rattle.segment_layout.specs.Shapes.{buffer_of, end_of, start_of}
use Rattle.segment_layout.proofs.ShapeLaws.{buffer_of-le, buffer_of-zero, end_of-split, end_of-high}
use Rattle.flush_model.specs.declared.item.Item.{Item}
use Rattle.flush_model.specs.declared.item.Numbers.{Numbers}
use Rattle.flush_model.specs.Plans.{AreBelow, AreSmall, class_total, largest_of, laid_length, numbers_of, object_of, segments_length, stands_in_payload, total, weight, in_class}
use Rattle.flush_model.specs.Phases.{CanFlush}
use Rattle.flush_model.proofs.ListLaws.{cond_at_most, sum_by_none_in}
use Rattle.flush_model.proofs.ItemLaws.{items_within, total_is}
use Rattle.flush_model.proofs.FinalLaws.{class_total_is}
use Rattle.flush_model.proofs.LiftLaws.{payload_parts}
use Rattle.flush_model.proofs.NumbersLaws.{item_ends, items_of_flush, reach_is}
use Rattle.flush_model.proofs.LargestLaws.{largest-le}
use Rattle.std.proofs.lemmas.List.{take_all}

-- a sum of terms that are small
sum_at_most : (f : ℕ → ℕ) (most first n : ℕ) → ((d : ℕ) → f d ≤ most)
    → sum_by f (counting_from first n) ≤ n * most
sum_at_most f most first zero each = omega arith
sum_at_most f most first (suc n) each =
    omega (
      arith,
      sum_by-cons f first (counting_from (first + 1) n),
      each first,
      sum_at_most f most (first + 1) n each,
    )

-- new segments are at most twice as long as what they hold
pub segments_at_most : (k : ℕ) (volume : ℕ → ℕ) (b most : ℕ) → ((d : ℕ) → volume d ≤ most)
    → segments_length k volume b width ≤ 32 * (2 * most)
segments_at_most k volume b most each =
    let terms = sum_at_most (λ d. volume d + buffer_of k (volume d)) (2 * most) b (width - b)
    (λ d. omega (arith, each d, buffer_of-le k (volume d))) in
    let few : width - b ≤ 32 = omega arith in
    omega (arith, terms, mul-le-mul_right (2 * most) few)

-- ---- new segments are at most twice as long as the items

-- an item is of one class
past_class : (it : Item) (first n : ℕ) → it.class < first
    → sum_by (λ d. in_class d it) (counting_from first n) ≡ 0
past_class it first zero low = refl
past_class it first (suc n) low = omega (
  arith,
  sum_by-cons (λ d. in_class d it) first (counting_from (first + 1) n),
  cond-false (it.class == first) it.size 0 (ne_eqb it.class first (λ e. omega (arith, e, low))),
  past_class it (first + 1) n (omega (arith, low)),
)

one_class : (it : Item) (first n : ℕ) → sum_by (λ d. in_class d it) (counting_from first n) ≤ it.size
one_class it first zero = omega arith
one_class it first (suc n) = elim (cases_eq it.class first) [
  | inl same ↦ omega (
    arith,
    sum_by-cons (λ d. in_class d it) first (counting_from (first + 1) n),
    cond_at_most (it.class == first) it.size,
    past_class it (first + 1) n (omega (arith, same)),
  )
  | inr other ↦ omega (
    arith,
    sum_by-cons (λ d. in_class d it) first (counting_from (first + 1) n),
    cond-false (it.class == first) it.size 0 (ne_eqb it.class first other),
    one_class it (first + 1) n,
  )
]

-- the classes have together no more than all items
classes_together : (items : List Item) (ds : List ℕ)
    → ((it : Item) → sum_by (λ d. in_class d it) ds ≤ it.size)
    → sum_by (λ d. sum_by (in_class d) items) ds ≤ total items
classes_together [] ds one = omega (arith, none ds)
  where
    none : (xs : List ℕ) → sum_by (λ d. sum_by (in_class d) []) xs ≡ 0
    none [] = refl
    none (x ∷ xs) = omega (arith, sum_by-cons (λ d. sum_by (in_class d) []) x xs, none xs)
classes_together (it ∷ items) ds one = omega (
  arith,
  split ds,
  one it,
  classes_together items ds one,
  sum_by-cons (λ (x : Item). x.size) it items,
)
  where
    split : (xs : List ℕ) → sum_by (λ d. sum_by (in_class d) (it ∷ items)) xs
        ≡ sum_by (λ d. in_class d it) xs + sum_by (λ d. sum_by (in_class d) items) xs
    split [] = refl
    split (x ∷ xs) = omega (
      arith,
      sum_by-cons (λ d. sum_by (in_class d) (it ∷ items)) x xs,
      sum_by-cons (in_class x) it items,
      sum_by-cons (λ d. in_class d it) x xs,
      sum_by-cons (λ d. sum_by (in_class d) items) x xs,
      split xs,
    )

segments_twice : (k : ℕ) (items : List Item) (ds : List ℕ)
    → sum_by (λ d. class_total items d + buffer_of k (class_total items d)) ds
    ≤ 2 * sum_by (λ d. sum_by (in_class d) items) ds
segments_twice k items [] = omega arith
segments_twice k items (d ∷ ds) = omega (
  arith,
  sum_by-cons (λ x. class_total items x + buffer_of k (class_total items x)) d ds,
  sum_by-cons (λ x. sum_by (in_class x) items) d ds,
  buffer_of-le k (class_total items d),
  class_total_is items d,
  segments_twice k items ds,
)

pub laid_by_total : (k : ℕ) (items : List Item) (b : ℕ) → laid_length k items b width ≤ 2 * total items
laid_by_total k items b =
    let ds = counting_from b (width - b) in
    omega (
      arith,
      segments_twice k items ds,
      classes_together items ds (λ it. one_class it b (width - b)),
    )

-- a layout ends below 2 ^ 54
pub end_small : (k : ℕ) (caps : List ℕ) → ((c : ℕ) → slice_index caps c < 2 ^ 48) → length caps ≡ width
    → end_of k caps ≤ 2 ^ 54
end_small k caps small full =
    omega (
      arith,
      end_of-high k caps width small (omega (arith, full)),
      ap (end_of k) (take_all width caps (omega (arith, full))),
    )

module _ (k : ℕ) (caps : List ℕ) (b : ℕ) (items : List Item) (flush : CanFlush k caps b items) where
  -- each item is of a class that the layout has
  pub flush_below : (C : ℕ) → IsRow C caps → AreBelow C items
  flush_below C row it has = elim (cases_lt it.class C) [
    | inl low ↦ low
    | inr high ↦ absurd (elim (flush.stands it has) [
      | inl payload ↦ omega (
        arith,
        (payload_parts k caps it payload).0,
        (payload_parts k caps it payload).1,
        row.zero_above it.class high,
        flush.some it has,
      )
      | inr buffer ↦
          let none : slice_index caps buffer.0 ≡ 0 =
          row.zero_above buffer.0 (omega (arith, high, buffer.1.class)) in
          omega (
            arith,
            buffer.1.low,
            buffer.1.high,
            ap (buffer_of k) none,
            buffer_of-zero k,
            flush.some it has,
          )
    ])
  ]

  -- the items have at most as many bytes as the layout
  pub weight_fits : (q : Item → Bool) → weight q items ≤ end_of k caps
  weight_fits q = omega (
    arith,
    items_within (numbers_of k caps b items 0) items
        (items_of_flush k caps b items flush 0) q 0 (end_of k caps) (omega arith)
        (λ it has is. (omega arith, item_ends k caps b items flush 0 it has)),
  )

  module _ (high : end_of k caps ≤ 2 ^ 54) (pending : ℕ) (small : pending ≤ 2 ^ 31) where
    abbrev n : Numbers
    n = numbers_of k caps b items pending

    -- a class that the layout doesn't have is empty
    pub class_rest : (C : ℕ) → IsRow C caps → (1 ≤ pending → class_of pending < C) → (d : ℕ) → C ≤ d
        → class_total (object_of pending ∷ items) d ≡ 0
    class_rest C row below d past = omega (
      arith,
      class_total_is (object_of pending ∷ items) d,
      sum_by-cons (in_class d) (object_of pending) items,
      first,
      sum_by_none_in (in_class d) items others,
    )
      where
        first : in_class d (object_of pending) ≡ 0
        first = elim (cases_lt 0 pending) [
          | inl some ↦ cond-false (class_of pending == d) pending 0
              (ne_eqb (class_of pending) d (λ e. omega (arith, e, below (omega (arith, some)), past)))
          | inr none ↦ omega (arith, none, cond_at_most (class_of pending == d) pending)
        ]

        others : (it : Item) → Contains items it → in_class d it ≡ 0
        others it has = cond-false (it.class == d) it.size 0
            (ne_eqb it.class d (λ e. omega (arith, e, flush_below C row it has, past)))

    pub class_small : (d : ℕ) → class_total (object_of pending ∷ items) d ≤ 2 ^ 55
    class_small d = omega (
      arith,
      class_total_is (object_of pending ∷ items) d,
      sum_by-cons (in_class d) (object_of pending) items,
      cond_at_most ((object_of pending).class == d) pending,
      weight_fits (λ it. it.class == d),
      high,
      small,
    )

    pub laid_small : laid_length k (object_of pending ∷ items) b width ≤ 2 ^ 61
    laid_small = omega (
      arith,
      segments_at_most k (class_total (object_of pending ∷ items)) b (2 ^ 55)
          class_small,
    )

    pub largest_small : largest_of items pending ≤ 2 ^ 54
    largest_small = largest-le pending (2 ^ 54) items (omega (arith, small))
        (λ it has. omega (arith, item_ends k caps b items flush pending it has, high))

    pub start_small : start_of k caps b ≤ 2 ^ 54
    start_small = omega (arith, end_of-split k caps b, high)

    pub slack_small : n.slack ≤ 2 ^ 56
    slack_small = omega (
      arith,
      largest_small,
      total_is (stands_in_payload k caps) items,
      weight_fits (stands_in_payload k caps),
      div-le_self (total (filter (stands_in_payload k caps) items)) k,
      high,
    )

    pub wall_small : n.wall ≤ 2 ^ 62
    wall_small =
        let ends : max (end_of k caps) n.end ≤ 2 ^ 61 + 2 ^ 54 =
        max-le (omega (arith, high)) (omega (arith, laid_small, start_small)) in
        omega (arith, slack_small, ends)

    pub reach_small : n.reach < 2 ^ 63
    reach_small = omega (
      arith,
      wall_small,
      reach_is k caps b items flush pending,
      weight_fits (λ it. not (stands_in_payload k caps it)),
      high,
      small,
    )

    pub small_of_flush : AreSmall n items
    small_of_flush = (
      omega (arith, reach_small),
      λ it has. omega (arith, item_ends k caps b items flush pending it has, high),
    )
