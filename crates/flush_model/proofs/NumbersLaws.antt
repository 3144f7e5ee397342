-- The numbers of a flush: where the wall and the reach stand, and that a flush may begin with them.
use Rattle.std.specs.Prelude.{◌≡◌, ℕ, ◌+◌, ◌-◌, ◌*◌, ◌/◌, ◌<◌, ◌≤◌, nat_le, max, not, Bool, ◌&&◌, cond, List, length, slice_index, Contains, filter, sum_by}
use Rattle.std.proofs.Common.{arith, ap, inl, inr}
use Rattle.std.proofs.lemmas.Bool.{both_ways, cases_lt, cases_Bool, cond-true, cond-false, leb-true, le-leb, and_parts, and_from, not_from_false, not_from_true}
use Rattle.std.proofs.Math.Nat.{le-max_left, le-max_right, max-eq_left, max-eq_right, mul-le-mul_left, le_of_mul-le-mul_left, mul-div-le}
use Rattle.byte_ranges.specs.Lists.{sum_below}
use Rattle.size_class.specs.Classes.{width}
use Rattle.size_class.proofs.ClassLaws.{class_below}
use Rattle.segment_layout.specs.Shapes.{buffer_of, buffer_start, end_of, start_of}
use Rattle.segment_layout.proofs.ShapeLaws.{start_of-le, buffer_of-times, start_of-rises}
use Rattle.map_model.specs.Maps.{largest, volume}
use Rattle.segment_layout.proofs.SumLaws.{sum_below_le, sum_below_term, sum_below_times, sum_by_below, sum_by_places}
use Rattle.flush_model.specs.declared.item.Item.{Item}
use Rattle.flush_model.specs.declared.item.Numbers.{Numbers}
use Rattle.flush_model.specs.Plans.{largest_of, numbers_of, stands_in_payload, total, weight}
use Rattle.flush_model.specs.Phases.{AreItems, CanFlush}
use Rattle.flush_model.specs.LooseReach.{ReachIsLoose}
use Rattle.flush_model.proofs.ListLaws.{sum_by_le_in, sum_by_same_in, sum_by_both}
use Rattle.flush_model.proofs.ItemLaws.{items_within, total_is}
use Rattle.flush_model.proofs.LiftLaws.{payload_parts}
use Rattle.flush_model.proofs.LargestLaws.{largest-from, largest-le, largest-of}

pub start_of-le_start : (k : ℕ) (caps : List ℕ) (b c : ℕ) → b ≤ c → c ≤ length caps
    → start_of k caps b ≤ start_of k caps c
start_of-le_start k caps b c low high = elim (cases_lt b c) [
  | inl less ↦ omega (arith, start_of-rises k caps b c less high)
  | inr more ↦ let e : b ≡ c = omega (arith, low, more) in omega (arith, ap (start_of k caps) e)
]

module _ (k : ℕ) (caps : List ℕ) (b : ℕ) (items : List Item) (flush : CanFlush k caps b items)
    (pending : ℕ) where
  abbrev n : Numbers
  n = numbers_of k caps b items pending

  abbrev in_payload : ℕ
  in_payload = total (filter (stands_in_payload k caps) items)

  class_high : (it : Item) → Contains items it → it.class < length caps
  class_high it has = omega (arith, flush.classes, flush.class it has, class_below it.size)

  -- each item ends where the old layout ends, or before, and begins where the suffix begins, or behind
  pub item_ends : (it : Item) → Contains items it → it.place + it.size ≤ end_of k caps
  item_ends it has = elim (flush.stands it has) [
    | inl payload ↦ omega (
      arith,
      (payload_parts k caps it payload).1,
      start_of-le k caps it.class (class_high it has),
    )
    | inr buffer ↦ omega (
      arith,
      buffer.1.high,
      start_of-le k caps buffer.0 (omega (arith, buffer.1.within, flush.classes)),
    )
  ]

  pub item_begins : (it : Item) → Contains items it → start_of k caps b ≤ it.place
  item_begins it has = elim (flush.stands it has) [
    | inl payload ↦ omega (
      arith,
      (payload_parts k caps it payload).0,
      start_of-le_start k caps b it.class (flush.from it has) (omega (arith, class_high it has)),
    )
    | inr buffer ↦ omega (
      arith,
      buffer.1.low,
      start_of-le_start k caps b buffer.0 (omega (arith, flush.from it has, buffer.1.class))
          (omega (arith, buffer.1.within, flush.classes)),
    )
  ]

  pub slack_over_sizes : (it : Item) → Contains items it → it.size ≤ n.slack
  slack_over_sizes it has = omega (arith, largest-of pending items it has)

  pub slack_over_pending : pending ≤ n.slack
  slack_over_pending = omega (arith, largest-from pending items)

  pub wall_over_old_end : end_of k caps + n.slack ≤ n.wall
  wall_over_old_end = omega (arith, le-max_left (end_of k caps) n.end)

  pub wall_over_new_end : n.end + n.slack ≤ n.wall
  wall_over_new_end = omega (arith, le-max_right (end_of k caps) n.end)

  -- the bytes in buffers are those that don't stand in payload segments
  abbrev in_buffers : ℕ
  in_buffers = weight (λ it. not (stands_in_payload k caps it)) items

  pub parts_are_all : in_payload + in_buffers ≡ total items
  parts_are_all =
      omega (
        arith,
        total_is (stands_in_payload k caps) items,
        sum_by_both (λ it. cond (stands_in_payload k caps it) it.size 0)
            (λ it. cond (not (stands_in_payload k caps it)) it.size 0) items,
        sum_by_same_in (λ it. cond (stands_in_payload k caps it) it.size 0
            + cond (not (stands_in_payload k caps it)) it.size 0) (λ it. it.size) items each,
      )
    where
      each : (it : Item) → Contains items it
          → cond (stands_in_payload k caps it) it.size 0 + cond (not (stands_in_payload k caps it)) it.size 0
          ≡ it.size
      each it has = elim (cases_Bool (stands_in_payload k caps it)) [
        | inl is ↦ omega (
          arith,
          cond-true (stands_in_payload k caps it) it.size 0 is,
          cond-false (not (stands_in_payload k caps it)) it.size 0
              (not_from_true (stands_in_payload k caps it) is),
        )
        | inr other ↦ omega (
          arith,
          cond-false (stands_in_payload k caps it) it.size 0 other,
          cond-true (not (stands_in_payload k caps it)) it.size 0
              (not_from_false (stands_in_payload k caps it) other),
        )
      ]

  pub reach_is : n.wall + in_buffers + pending ≡ n.reach
  reach_is = omega (arith, parts_are_all)

  -- what is kept of the items in each phase holds of those without the pending one
  pub items_of_flush : AreItems n items
  items_of_flush =
      record {
        apart = flush.apart;
        some = flush.some;
        class = flush.class;
        from = flush.from;
        start = item_begins;
      }

  -- ---- the bytes in buffers fit into the buffers

  in_buffer : ℕ → Item → Bool
  in_buffer j it = nat_le (buffer_start k caps j) it.place
      && nat_le (it.place + it.size) (buffer_start k caps j + buffer_of k (slice_index caps j))

  pub buffers_hold : (k + 1) * in_buffers ≤ end_of k caps
  unfolding in_buffer
  buffers_hold =
      let buffers : ℕ → ℕ = λ j. buffer_of k (slice_index caps j) in
      let bytes : ℕ → Item → ℕ = λ j it. cond (in_buffer j it) it.size 0 in
      let each : (it : Item) → Contains items it
      → cond (not (stands_in_payload k caps it)) it.size 0 ≤ sum_below width (λ j. bytes j it) = λ it has.
      elim (cases_Bool (stands_in_payload k caps it)) [
        | inl is ↦ omega (
          arith,
          cond-false (not (stands_in_payload k caps it)) it.size 0
              (not_from_true (stands_in_payload k caps it) is),
        )
        | inr other ↦ elim (flush.stands it has) [
          | inl is ↦ absurd (both_ways (stands_in_payload k caps it) other is)
          | inr there ↦
              let j = there.0 in
              let here : bytes j it ≡ it.size = cond-true (in_buffer j it) it.size 0
              (and_from (nat_le (buffer_start k caps j) it.place)
              (nat_le (it.place + it.size) (buffer_start k caps j + buffers j))
              (le-leb (buffer_start k caps j) it.place there.1.low)
              (le-leb (it.place + it.size) (buffer_start k caps j + buffers j) there.1.high)) in
              omega (
                arith,
                cond-true (not (stands_in_payload k caps it)) it.size 0
                    (not_from_false (stands_in_payload k caps it) other),
                here,
                sum_below_term width j (λ j. bytes j it) there.1.within,
              )
        ]
      ] in
      let one : (j : ℕ) → j < width → sum_by (bytes j) items ≤ buffers j = λ j below.
      omega (
        arith,
        items_within n items items_of_flush (in_buffer j) (buffer_start k caps j)
            (buffer_start k caps j + buffers j) (omega arith) (λ it has is.
            let parts = and_parts (nat_le (buffer_start k caps j) it.place)
            (nat_le (it.place + it.size) (buffer_start k caps j + buffers j)) is in (
              leb-true (buffer_start k caps j) it.place parts.0,
              leb-true (it.place + it.size) (buffer_start k caps j + buffers j) parts.1,
            )),
      ) in
      let all : in_buffers ≤ sum_below width buffers = omega (
        arith,
        sum_by_le_in (λ it. cond (not (stands_in_payload k caps it)) it.size 0)
            (λ it. sum_below width (λ j. bytes j it)) items each,
        sum_by_below width bytes items,
        sum_below_le width (λ j. sum_by (bytes j) items) buffers one,
      ) in
      let ends : (k + 1) * sum_below width buffers ≤ end_of k caps = omega (
        arith,
        sum_below_times (k + 1) width buffers,
        sum_by_places (λ v. v + buffer_of k v) caps width flush.classes,
        sum_below_le width (λ j. (k + 1) * buffers j) (λ j. slice_index caps j + buffers j)
            (λ j below. omega (arith, buffer_of-times k (slice_index caps j))),
      ) in
      omega (arith, mul-le-mul_left (k + 1) all, ends)

-- ---- the reach is loose

-- The reach of a flush, in numbers: j is k less 1. Both ends are tight, the sizes are at most w, the bytes in
-- payload segments at most v, and the bytes in buffers fit into the buffers.
pub loose_numbers : (j old new v w largest lo buffered pending : ℕ) → j * old ≤ (j + 2) * v
    → j * new ≤ (j + 2) * v → largest ≤ w → pending ≤ w → 1 ≤ w → lo ≤ v → (j + 2) * buffered ≤ old
    → j * (max old new + (largest + (lo / (j + 1) + 1)) + buffered + pending) ≤ (j + 4) * v + 3 * j * w
loose_numbers j old new v w largest lo buffered pending tight_old tight_new fits_d fits_p some fits_lo
    fits_b =
    let m = lo / (j + 1) in
    let ends : j * max old new ≤ (j + 2) * v = elim (cases_lt old new) [
      | inl less ↦ omega (
        arith,
        ap (λ x. j * x) (max-eq_right {n = old} {m = new} (omega (arith, less))),
        tight_new,
      )
      | inr more ↦ omega (arith, ap (λ x. j * x) (max-eq_left {n = old} {m = new} more), tight_old)
    ] in
    let part : j * m ≤ v = omega (arith, mul-div-le lo (j + 1), fits_lo) in
    let few : j * buffered ≤ v = le_of_mul-le-mul_left {m = j * buffered} {n = v} {k = j + 2}
    (omega (arith, mul-le-mul_left j fits_b, tight_old)) (omega arith) in
    omega (arith, ends, part, few, mul-le-mul_left j fits_d, mul-le-mul_left j fits_p, mul-le-mul_left j some)

pub reach_is_loose : ReachIsLoose
reach_is_loose k caps b items flush pending before after big tight_old tight_new each fits some fits_lo =
    let j = k - 1 in
    let v = max (volume before) (volume after) in
    let w = max (largest before) (largest after) in
    let e0 : j + 1 ≡ k = omega (arith, big) in
    let e1 : k + 1 ≡ j + 2 = omega (arith, big) in
    let e3 : k + 3 ≡ j + 4 = omega (arith, big) in
    let old_end = end_of k caps in
    let new_end = (numbers_of k caps b items pending).end in
    let lo = total (filter (stands_in_payload k caps) items) in
    let buffered = weight (λ it. not (stands_in_payload k caps it)) items in
    let d = largest_of items pending in
    let wide : (x : ℕ) → x ≤ v → (k + 1) * x
    ≤ (j + 2) * v = λ x less. omega (arith, mul-le-mul_left (k + 1) less, ap (λ y. y * v) e1) in
    let held : (j + 2) * buffered ≤ old_end =
    omega (arith, buffers_hold k caps b items flush pending, ap (λ y. y * buffered) e1) in
    let numbers = loose_numbers j old_end new_end v w d lo buffered pending
    (omega (arith, tight_old, wide (volume before) (le-max_left (volume before) (volume after))))
    (omega (arith, tight_new, wide (volume after) (le-max_right (volume before) (volume after))))
    (largest-le pending w items fits each) fits some fits_lo held in
    let reach : (numbers_of k caps b items pending).reach
    ≡ max old_end new_end + (d + (lo / (j + 1) + 1)) + buffered + pending =
    omega (arith, reach_is k caps b items flush pending, ap (λ x. lo / x) e0) in
    omega (arith, numbers, ap (λ x. j * x) reach, ap (λ y. y * v) e3)
