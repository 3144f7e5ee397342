-- The two passes over the records below the wall, and what they and the sides of the wall give.
use Rattle.std.specs.Prelude.{◌≡◌, ◌⊎◌, ℕ, ◌+◌, ◌*◌, ◌^◌, ◌<◌, ◌≤◌, min, List, length, drop, sum_by, slice_index, refl}
use Rattle.std.proofs.Common.{arith, ap, sym, inl, inr, subst}
use Rattle.std.proofs.lemmas.Bool.{cases_eq, cases_lt}
use Rattle.std.proofs.lemmas.List.{drop_all}
use Rattle.std.proofs.lemmas.List.Sums.{sum_by-drop_more}
use Rattle.size_class.specs.Classes.{class_of}
use Rattle.slot_codec.specs.declared.codec.Kind.TheVariants.{Moving}
use Rattle.table_rules.specs.Tables.{TableInLayout, end_of_record, is_below_wall}
use Rattle.table_rules.specs.Rules.{AllHold, apart_from_earlier, moving_places, places_to_resume}
use Rattle.extent_table.specs.Extents.{Extents, records_of}
use Rattle.table_check.specs.declared.frame.Frame.{Frame}
use Rattle.table_rules.specs.Breaks.{BreaksAt}
use Rattle.table_check.specs.Firsts.{IsLeast}
use Rattle.table_check.specs.Orders.{IsByPlace}
use Rattle.table_check.specs.Placed.{placed, ranked}
use Rattle.table_check.specs.Suffixes.{HasWideGap, IsInOrder, StandsBesideWall}
use Rattle.table_check.proofs.PassLaws.{PassSoFar, pass_breaks, pass_ends, pass_holds, pass_none}
use Rattle.table_check.proofs.WallLaws.{in_order, known, narrow_gap, out_of_order, stands_low, wide_gap}

-- ---- the two passes

-- the classes of the records before a position: the least that is out of order, and the greatest class
pub record OrderSoFar (e : Extents) (f : Frame) (order : List ℕ) (at least greatest : ℕ) : Type 0 where
  pub pass : PassSoFar (IsInOrder (placed e f)) (length (records_of e.now)) order (λ q. q < at) least
  pub most : (q : ℕ) → q < at → class_of (ranked e (slice_index order q)).size ≤ greatest
  pub here : 0 < greatest → (q : ℕ) × (q < at) × (class_of (ranked e (slice_index order q)).size ≡ greatest)

-- the gaps above the records from a position on: the least record with a narrow one, and their bytes
pub record GapsSoFar (e : Extents) (f : Frame) (order : List ℕ) (left least bytes : ℕ) : Type 0 where
  pub within : left ≤ length order
  pub pass : PassSoFar (HasWideGap (placed e f)) (length (records_of e.now)) order (λ q. left ≤ q) least
  pub sum : bytes ≡ sum_by (λ i. (ranked e i).size) (drop left order)
  pub small : bytes + left * 2 ^ 48 ≤ length order * 2 ^ 48

-- a position more, at either end
next_up : (at q : ℕ) → q < at + 1 → (q < at) ⊎ (q ≡ at)
next_up at q h = elim (cases_lt q at) [ inl less ↦ inl less | inr above ↦ inr (omega (arith, above, h)) ]

next_down : (at q : ℕ) → at ≤ q → (at + 1 ≤ q) ⊎ (q ≡ at)
next_down at q h = elim (cases_lt at q) [
  | inl less ↦ inl (omega (arith, less))
  | inr above ↦ inr (omega (arith, above, h))
]

module _ (e : Extents) (f : Frame) (order : List ℕ)
    (by : IsByPlace e (λ i. is_below_wall (placed e f) (ranked e i)) (length (records_of e.now)) order)
    (apart : AllHold apart_from_earlier (placed e f)) where
  pub order_none : OrderSoFar e f order 0 (length (records_of e.now)) 0
  order_none = record {
    pass = pass_none (IsInOrder (placed e f)) (length (records_of e.now)) order (λ q. q < 0)
        (λ q less low. absurd (omega (arith, less)));
    most = λ q less. absurd (omega (arith, less));
    here = λ some. absurd (omega (arith, some));
  }

  module _ (at least greatest : ℕ) (h : OrderSoFar e f order at least greatest)
      (low : at < length order) where
    pub order_breaks : class_of (ranked e (slice_index order at)).size < greatest
        → OrderSoFar e f order (at + 1) (min least (slice_index order at)) greatest
    order_breaks less =
        let there = h.here (omega (arith, less)) in
        record {
          pass = pass_breaks (IsInOrder (placed e f)) (length (records_of e.now)) order (λ q. q < at)
              (λ q. q < at + 1) least at h.pass (next_up at) (stands_low e f order by at low)
              (out_of_order e f order by apart at there.0 low there.1 (omega (arith, less, there.2)));
          most = λ q below. elim (next_up at q below) [
            | inl before ↦ h.most q before
            | inr e' ↦ omega (arith, less, ap (λ k. class_of (ranked e (slice_index order k)).size) e')
          ];
          here = λ some. (there.0, omega (arith, there.1), there.2);
        }

    pub order_holds : greatest ≤ class_of (ranked e (slice_index order at)).size
        → OrderSoFar e f order (at + 1) least (class_of (ranked e (slice_index order at)).size)
    order_holds fits = record {
      pass = pass_holds (IsInOrder (placed e f)) (length (records_of e.now)) order (λ q. q < at)
          (λ q. q < at + 1) least at h.pass (next_up at)
          (in_order e f order by apart at greatest low h.most fits);
      most = λ q below. elim (next_up at q below) [
        | inl before ↦ omega (arith, h.most q before, fits)
        | inr e' ↦ omega (arith, ap (λ k. class_of (ranked e (slice_index order k)).size) e')
      ];
      here = λ some. (at, omega arith, refl);
    }

  pub order_ends : (at least greatest : ℕ) → OrderSoFar e f order at least greatest → length order ≤ at
      → IsLeast (IsInOrder (placed e f)) (length (records_of e.now)) least
  order_ends at least greatest h done =
      pass_ends (IsInOrder (placed e f)) (length (records_of e.now)) order (λ q. q < at) least h.pass
      (λ q low. omega (arith, done, low))
      (known e f order by (IsInOrder (placed e f)) (λ i free is. absurd (free is)))

  pub gaps_none : GapsSoFar e f order (length order) (length (records_of e.now)) 0
  gaps_none = record {
    within = omega arith;
    pass = pass_none (HasWideGap (placed e f)) (length (records_of e.now)) order (λ q. length order ≤ q)
        (λ q high low. absurd (omega (arith, high, low)));
    sum = sym (ap (sum_by (λ i. (ranked e i).size)) (drop_all (length order) order (omega arith)));
    small = omega arith;
  }

  module _ (at least bytes after : ℕ) (h : GapsSoFar e f order (at + 1) least bytes) (low : at < length order)
      (small : (ranked e (slice_index order at)).size < 2 ^ 48)
      (more : after ≡ bytes + (ranked e (slice_index order at)).size) where
    sum_more : after ≡ sum_by (λ i. (ranked e i).size) (drop at order)
    sum_more = omega (arith, more, h.sum, sum_by-drop_more (λ i. (ranked e i).size) order at 0 low)

    pub gaps_break : ((end_of_record (ranked e (slice_index order at)) + bytes ≡ f.header.wall)
        ⊎ (end_of_record (ranked e (slice_index order at)) + bytes + f.header.slack ≤ f.header.wall) → ⊥)
        → GapsSoFar e f order at (min least (slice_index order at)) after
    gaps_break narrow = record {
      within = omega (arith, low);
      pass = pass_breaks (HasWideGap (placed e f)) (length (records_of e.now)) order (λ q. at + 1 ≤ q)
          (λ q. at ≤ q) least at h.pass (next_down at) (stands_low e f order by at low)
          (narrow_gap e f order by apart at bytes low h.sum narrow);
      sum = sum_more;
      small = omega (arith, more, h.small, small);
    }

    pub gaps_hold : (end_of_record (ranked e (slice_index order at)) + bytes ≡ f.header.wall)
        ⊎ (end_of_record (ranked e (slice_index order at)) + bytes + f.header.slack ≤ f.header.wall)
        → GapsSoFar e f order at least after
    gaps_hold wide = record {
      within = omega (arith, low);
      pass = pass_holds (HasWideGap (placed e f)) (length (records_of e.now)) order (λ q. at + 1 ≤ q)
          (λ q. at ≤ q) least at h.pass (next_down at) (wide_gap e f order by apart at bytes low h.sum wide);
      sum = sum_more;
      small = omega (arith, more, h.small, small);
    }

  pub gaps_end : (left least bytes : ℕ) → GapsSoFar e f order left least bytes → left ≤ 0
      → IsLeast (HasWideGap (placed e f)) (length (records_of e.now)) least
  gaps_end left least bytes h done =
      pass_ends (HasWideGap (placed e f)) (length (records_of e.now)) order (λ q. left ≤ q) least h.pass
      (λ q low. omega (arith, done))
      (known e f order by (HasWideGap (placed e f)) (λ i free is. absurd (free is)))

-- the three sentences together
pub first_of_three : (t : TableInLayout) (a b c : ℕ) → t.header.kind ≡ Moving
    → IsLeast (StandsBesideWall t) (length t.records) a → IsLeast (IsInOrder t) (length t.records) b
    → IsLeast (HasWideGap t) (length t.records) c → min (min a b) c < length t.records
    → BreaksAt places_to_resume t (min (min a b) c)
first_of_three t a b c moving side order gap less =
    let at = min (min a b) c in
    let places : moving_places t.header.kind (length t.records) ≡ length t.records =
    ap (λ kind. moving_places kind (length t.records)) moving in
    record {
      here = omega (arith, less, places);
      before = λ i low. record {
        side = side.before i (omega (arith, low));
        order = order.before i (omega (arith, low));
        gap = gap.before i (omega (arith, low));
      };
      broken = λ holds. elim (cases_eq at a) [
        | inl e ↦ side.broken (omega (arith, less, e)) (subst (StandsBesideWall t) e holds.side)
        | inr other ↦ elim (cases_eq at b) [
          | inl e ↦ order.broken (omega (arith, less, e)) (subst (IsInOrder t) e holds.order)
          | inr neither ↦
              let e : at ≡ c = omega (arith, other, neither) in
              gap.broken (omega (arith, less, e)) (subst (HasWideGap t) e holds.gap)
        ]
      ];
    }
