-- The records of the suffix below the wall, in the order of their places.
use Rattle.std.specs.Prelude.{◌≡◌, ◌⊎◌, ℕ, suc, ◌+◌, ◌<◌, ◌≤◌, nat_lt, nat_le, ◌&&◌, Bool, true, false, cond, List, [], ◌∷◌, length, take, drop, sum_by, slice_index, slice_index_or, IsTrue, refl}
use Rattle.std.proofs.Common.{arith, ap, sym, ◌∙◌, inl, inr, subst}
use Rattle.std.proofs.lemmas.Bool.{and_parts, cases_Bool, cases_lt, cond-true, cond-false, false≢true, le-ltb, lt-ltb, ltb-true}
use Rattle.std.proofs.lemmas.List.{get_or-drop, get_or-take, length-drop, length-take-le}
use Rattle.std.proofs.lemmas.List.Sorted.{sum_by-IsPermutation}
use Rattle.std.proofs.lemmas.List.Sums.{sum_by-cons, sum_by-take-drop}
use Rattle.byte_ranges.specs.Lists.{below, counting_from}
use Rattle.size_class.specs.Classes.{class_of}
use Rattle.slot_codec.specs.declared.codec.Record.{Record}
use Rattle.segment_layout.proofs.BookLaws.{sum_by-filter, sum_by_none}
use Rattle.segment_layout.proofs.SumLaws.{sum_by_same_places}
use Rattle.table_rules.specs.Tables.{Apart, end_of_record, is_below_wall, is_suffix, no_record, packed_end, sizes_above, table_boundary}
use Rattle.table_rules.specs.Rules.{AllHold, apart_from_earlier}
use Rattle.extent_table.specs.Extents.{Extents, records_of}
use Rattle.table_check.specs.declared.frame.Frame.{Frame}
use Rattle.table_check.specs.Orders.{IsByPlace, passing}
use Rattle.table_check.specs.Placed.{placed, ranked}
use Rattle.table_check.specs.Suffixes.{HasWideGap, IsInOrder}
use Rattle.table_check.proofs.RankLaws.{differ, each_passes, found}

module _ (e : Extents) (f : Frame) (order : List ℕ)
    (by : IsByPlace e (λ i. is_below_wall (placed e f) (ranked e i)) (length (records_of e.now)) order) where
  pub stands : (q : ℕ) → q < length order → is_below_wall (placed e f) (ranked e (slice_index order q)) ≡ true
  stands q low = (each_passes (λ i. is_below_wall (placed e f) (ranked e i)) (length (records_of e.now)) order
      by.same q low).1

  pub stands_low : (q : ℕ) → q < length order → slice_index order q < length (records_of e.now)
  stands_low q low = (each_passes (λ i. is_below_wall (placed e f) (ranked e i)) (length (records_of e.now))
      order by.same q low).0

  some_bytes : (i : ℕ) → is_below_wall (placed e f) (ranked e i) ≡ true → 0 < (ranked e i).size
  some_bytes i is =
      let r = ranked e i in
      let one = and_parts (is_suffix (placed e f) r) (nat_lt r.place f.header.wall) is in
      ltb-true 0 r.size (and_parts (nat_lt 0 r.size)
      (nat_le (table_boundary (placed e f)) (class_of r.size)) one.0).0

  apart_places : (i j : ℕ) → 0 < (ranked e i).size → 0 < (ranked e j).size
      → Apart (ranked e i) (ranked e j) ⊎ Apart (ranked e j) (ranked e i)
      → (ranked e i).place ≤ (ranked e j).place → (ranked e i).place < (ranked e j).place
  apart_places i j some more (inl apart) order = omega (arith, some, more, apart, order)
  apart_places i j some more (inr apart) order = omega (arith, some, more, apart, order)

  module _ (apart : AllHold apart_from_earlier (placed e f)) where
    -- two records of the order have two places
    strict : (a b : ℕ) → a < b → b < length order
        → (ranked e (slice_index order a)).place < (ranked e (slice_index order b)).place
    strict a b less high =
        let i = slice_index order a in
        let j = slice_index order b in
        let low : a < length order = omega (arith, less, high) in
        let other = differ (λ i. is_below_wall (placed e f) (ranked e i)) (length (records_of e.now)) order
        by.same a b less high in
        apart_places i j (some_bytes i (stands a low)) (some_bytes j (stands b high))
        (elim (cases_lt i j) [
          | inl lower ↦ inl (apart j (stands_low b high) i lower)
          | inr above ↦ elim (cases_lt j i) [
            | inl higher ↦ inr (apart i (stands_low a low) j higher)
            | inr most ↦ absurd (other (omega (arith, above, most)))
          ]
        ]) (by.rising a b 0 (omega (arith, less)) high)

    before_of_lower : (a b : ℕ) → a < length order → b < length order
        → (ranked e (slice_index order a)).place < (ranked e (slice_index order b)).place → a < b
    before_of_lower a b low high less = elim (cases_lt a b) [
      | inl is ↦ is
      | inr above ↦ absurd (omega (arith, less, by.rising b a 0 above low))
    ]

    -- ---- the classes

    pub in_order : (at greatest : ℕ) → at < length order
        → ((q : ℕ) → q < at → class_of (ranked e (slice_index order q)).size ≤ greatest)
        → greatest ≤ class_of (ranked e (slice_index order at)).size
        → IsInOrder (placed e f) (slice_index order at)
    in_order at greatest low most fits _ h high is less =
        let there = found (λ i. is_below_wall (placed e f) (ranked e i)) (length (records_of e.now)) order
        by.same h high is in
        let before = before_of_lower there.0 at there.1 low
        (subst (λ x. (ranked e x).place < (ranked e (slice_index order at)).place) (sym there.2) less) in
        omega (
          arith,
          most there.0 before,
          fits,
          ap (λ x. class_of (ranked e x).size) there.2,
        )

    pub out_of_order : (at q : ℕ) → at < length order → q < at
        → class_of (ranked e (slice_index order at)).size < class_of (ranked e (slice_index order q)).size
        → IsInOrder (placed e f) (slice_index order at) → ⊥
    out_of_order at q low before less holds =
        let under : q < length order = omega (arith, before, low) in
        absurd (omega (
          arith,
          less,
          holds (stands at low) (slice_index order q) (stands_low q under) (stands q under)
              (strict q at before low),
        ))

    -- ---- the bytes above a record

    abbrev size_at : ℕ → ℕ
    size_at i = (ranked e i).size

    abbrev above : ℕ → ℕ → ℕ
    above place i = cond (nat_lt place (ranked e i).place) (ranked e i).size 0

    both : (a b : Bool) (x : ℕ) → cond (a && b) x 0 ≡ cond a (cond b x 0) 0
    both true b x = refl
    both false b x = refl

    by_rank : (g : Record → ℕ) (all rs : List Record) (first : ℕ)
        → ((i : ℕ) → i < length rs
        → slice_index_or all (first + i) no_record ≡ slice_index_or rs i no_record)
        → sum_by g rs ≡ sum_by (λ i. g (slice_index_or all i no_record)) (counting_from first (length rs))
    by_rank g all [] first same = refl
    by_rank g all (r ∷ rs) first same =
        let here : slice_index_or all first no_record ≡ r =
        (let e : first ≡ first + 0 = omega arith in ap (λ k. slice_index_or all k no_record) e)
        ∙ same 0 (omega arith) in
        omega (
          arith,
          sum_by-cons g r rs,
          sum_by-cons (λ i. g (slice_index_or all i no_record)) first (counting_from (first + 1) (length rs)),
          ap g here,
          by_rank g all rs (first + 1) (λ i low. (let e : first + 1 + i ≡ first + suc i = omega arith in
              ap (λ k. slice_index_or all k no_record) e) ∙ same (suc i) (omega arith)),
        )

    sizes_by_order : (place : ℕ) → sizes_above (placed e f) place ≡ sum_by (above place) order
    unfolding below
    sizes_by_order place =
        let rs = records_of e.now in
        let q = λ (r : Record). is_below_wall (placed e f) r && nat_lt place r.place in
        sum_by-filter (λ (r : Record). r.size) q rs
        ∙ by_rank (λ r. cond (q r) r.size 0) rs rs 0 (λ i low.
        (let e : 0 + i ≡ i = omega arith in ap (λ k. slice_index_or rs k no_record) e))
        ∙ (λ k. sum_by (λ i. both (is_below_wall (placed e f) (ranked e i)) (nat_lt place (ranked e i).place)
        (ranked e i).size k) (below (length rs)))
        ∙ sym (sum_by-filter (above place) (λ i. is_below_wall (placed e f) (ranked e i)) (below (length rs)))
        ∙ sym (sum_by-IsPermutation (above place)
        (passing (λ i. is_below_wall (placed e f) (ranked e i)) (length rs)) order by.same)

    none_below : (at : ℕ) → at < length order
        → sum_by (above (ranked e (slice_index order at)).place) (take (at + 1) order) ≡ 0
    none_below at low =
        let place = (ranked e (slice_index order at)).place in
        sum_by_same_places 0 (above place) (λ i. 0) (take (at + 1) order) (λ q h.
        let under : q < at + 1 = omega (arith, h, length-take-le (at + 1) order (omega arith)) in
        let i = slice_index order q in
        let same : slice_index (take (at + 1) order) q ≡ i = get_or-take (at + 1) order q 0 under in
        ap (above place) same ∙ cond-false (nat_lt place (ranked e i).place) (ranked e i).size 0
        (le-ltb place (ranked e i).place (by.rising q at 0 (omega (arith, under)) low)))
        ∙ sum_by_none (λ (i : ℕ). 0) (take (at + 1) order) (λ i. refl)

    all_above : (at : ℕ) → at < length order
        → sum_by (above (ranked e (slice_index order at)).place) (drop (at + 1) order)
        ≡ sum_by size_at (drop (at + 1) order)
    all_above at low =
        let place = (ranked e (slice_index order at)).place in
        sum_by_same_places 0 (above place) size_at (drop (at + 1) order) (λ q h.
        let i = slice_index order (at + 1 + q) in
        let same : slice_index (drop (at + 1) order) q ≡ i = get_or-drop (at + 1) order q 0 in
        let high : at + 1 + q < length order = omega (arith, h, length-drop (at + 1) order) in
        ap (above place) same ∙ cond-true (nat_lt place (ranked e i).place) (ranked e i).size 0
        (lt-ltb place (ranked e i).place (strict at (at + 1 + q) (omega arith) high)) ∙ sym (ap size_at same))

    packed : (at : ℕ) → at < length order → packed_end (placed e f) (ranked e (slice_index order at))
        ≡ end_of_record (ranked e (slice_index order at)) + sum_by size_at (drop (at + 1) order)
    packed at low =
        let place = (ranked e (slice_index order at)).place in
        omega (
          arith,
          sizes_by_order place,
          sum_by-take-drop (above place) order (at + 1),
          none_below at low,
          all_above at low,
        )

    pub wide_gap : (at bytes : ℕ) → at < length order
        → bytes ≡ sum_by (λ i. (ranked e i).size) (drop (at + 1) order)
        → (end_of_record (ranked e (slice_index order at)) + bytes ≡ f.header.wall)
        ⊎ (end_of_record (ranked e (slice_index order at)) + bytes + f.header.slack ≤ f.header.wall)
        → HasWideGap (placed e f) (slice_index order at)
    wide_gap at bytes low is holds _ = elim holds [
      | inl none ↦ inl (omega (arith, none, is, packed at low))
      | inr wide ↦ inr (omega (arith, wide, is, packed at low))
    ]

    pub narrow_gap : (at bytes : ℕ) → at < length order
        → bytes ≡ sum_by (λ i. (ranked e i).size) (drop (at + 1) order)
        → ((end_of_record (ranked e (slice_index order at)) + bytes ≡ f.header.wall)
        ⊎ (end_of_record (ranked e (slice_index order at)) + bytes + f.header.slack ≤ f.header.wall) → ⊥)
        → HasWideGap (placed e f) (slice_index order at) → ⊥
    narrow_gap at bytes low is not holds = elim (holds (stands at low)) [
      | inl none ↦ not (inl (omega (arith, none, is, packed at low)))
      | inr wide ↦ not (inr (omega (arith, wide, is, packed at low)))
    ]

  -- records that aren't in the order have nothing to keep
  pub known : (P : ℕ → Type 0) → ((i : ℕ) → (IsTrue (is_below_wall (placed e f) (ranked e i)) → ⊥) → P i)
      → (i : ℕ) → i < length (records_of e.now)
      → P i ⊎ ((q : ℕ) × (q < length order) × (slice_index order q ≡ i))
  known P free i low = elim (cases_Bool (is_below_wall (placed e f) (ranked e i))) [
    | inl is ↦ inr (found (λ i. is_below_wall (placed e f) (ranked e i)) (length (records_of e.now)) order
        by.same i low is)
    | inr isnt ↦ inl (free i (λ is. absurd (false≢true (sym isnt ∙ is))))
  ]
