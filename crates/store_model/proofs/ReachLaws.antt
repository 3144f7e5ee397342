-- How far a flush reaches: the numbers of its items are small, since these are few.
use Rattle.std.specs.Prelude.{◌≡◌, ℕ, ◌+◌, ◌*◌, ◌^◌, ◌<◌, ◌≤◌, max, not, true, List, ◌∷◌, filter, Some, Contains}
use Rattle.std.proofs.Common.{arith, ap, inl, inr}
use Rattle.std.proofs.Math.Nat.{div-le_self, max-le}
use Rattle.std.proofs.lemmas.Bool.{cases_lt}
use Rattle.std.proofs.lemmas.List.Sums.{sum_by-cons}
use Rattle.std.specs.FinMap as fin
use Rattle.size_class.specs.Classes.{class_of, width}
use Rattle.size_class.specs.declared.TheConstants.{SIZE_MAX}
use Rattle.size_class.proofs.ClassLaws.{class_below}
use Rattle.slot_codec.specs.Choice as choice
use Rattle.slot_codec.specs.declared.codec.Record.{Record}
use Rattle.span_math.specs.declared.span.Span.{Span}
use Rattle.segment_layout.specs.Shapes.{buffer_start, end_of, start_of, taken_in}
use Rattle.segment_layout.proofs.ShapeLaws.{end_of-split, start_of-le}
use Rattle.table_rules.specs.Suffixes.{Stands}
use Rattle.extent_table.specs.declared.spot.Spot.{Spot}
use Rattle.extent_table.specs.Extents.{Extents, record_of}
use Rattle.placement_model.specs.Laid.{settled_table}
use Rattle.placement_model.proofs.EnterLaws.{by_name}
use Rattle.placement_model.proofs.LaidOutLaws.{laid_ends}
use Rattle.placement_model.proofs.SegmentLaws.{lies_parts}
use Rattle.flush_model.specs.declared.item.Item.{Item}
use Rattle.flush_model.specs.declared.item.Numbers.{Numbers}
use Rattle.flush_model.specs.Plans.{laid_length, numbers_of, object_of, stands_in_payload, total}
use Rattle.flush_model.proofs.BoundLaws.{laid_by_total, weight_fits}
use Rattle.flush_model.proofs.ItemLaws.{total_is}
use Rattle.flush_model.proofs.LargestLaws.{largest-le}
use Rattle.flush_model.proofs.NumbersLaws.{reach_is, wall_over_old_end}
use Rattle.flush_run.specs.Hands.{AllEndBy, suffix_items}
use Rattle.store_model.specs.Starts.{CanStart, flush_start}
use Rattle.store_model.proofs.CanFlushLaws.{can_flush}
use Rattle.store_model.proofs.LaidEndLaws.{end_small, most_end}
use Rattle.store_model.proofs.SuffixLaws.{has_item}

module _ (classes size_max : ℕ) (caps : List ℕ) (grid kept_grid : List (List ℕ)) (b : ℕ) (u : choice.InUse)
    (e : Extents) (spans : List Span)
    (h : CanStart classes size_max (flush_start caps grid kept_grid b u e spans)) where
  abbrev k : ℕ
  k = u.block.k

  abbrev items : List Item
  items = suffix_items b e

  -- ---- objects end where the layout does, or before

  pub all_small : (name : List ℕ) (s : Spot) → fin.get e.now name ≡ Some s → s.size ≤ size_max
  all_small = by_name (λ (r : Record). r.size ≤ size_max) e.now h.below.named h.below.below.sizes

  pub item_small : (it : Item) → Contains items it → it.size ≤ size_max
  item_small it has = let o = has_item b e it has in
      omega (arith, all_small o.name o.spot o.stands, ap (λ (x : Item). x.size) o.is)

  pub all_end : AllEndBy e.now (end_of k caps)
  all_end name s there = elim (cases_lt 0 s.size) as (λ _. s.place + s.size ≤ end_of k caps) [
    | inr none ↦ omega (
      arith,
      none,
      by_name (λ (r : Record). r.size ≡ 0 → r.place ≡ 0) e.now h.below.named h.below.below.empty name s there
          (omega (arith, none)),
    )
    | inl some ↦ elim (by_name (λ (r : Record). 0 < r.size
        → Stands (settled_table classes size_max k caps grid e.now) r) e.now h.below.named h.below.stand
        name s there
        some) as (λ _. s.place + s.size ≤ end_of k caps) [
          | inl here ↦
              let c = class_of s.size in
              omega (
                arith,
                (lies_parts (start_of k caps c) (buffer_start k caps c) (record_of (name, s)) here).1,
                start_of-le k caps c (omega (arith, class_below s.size, h.below.caps_full.full)),
              )
          | inr (j, low, wide, here) ↦ omega (
            arith,
            (lies_parts (buffer_start k caps j) (buffer_start k caps j + taken_in grid j)
                (record_of (name, s))
                here).1,
            h.below.filled.rows j wide,
            start_of-le k caps j (omega (arith, wide, h.below.caps_full.full)),
          )
        ]
  ]

  -- All kept objects end where the old layout does, or before.
  pub kept_end : AllEndBy e.kept (end_of k caps)
  kept_end = laid_ends classes size_max k caps kept_grid e.kept h.kept

  -- ---- the reach

  end_low : end_of k caps ≤ most_end
  end_low = end_small classes size_max k caps kept_grid e.kept h.kept u.block.names h.block.divisor_low
      h.block.names_high h.small (omega (arith, h.table.kept_room, h.names))

  -- the items of a flush and the pending one have no more bytes together
  abbrev most_items : ℕ
  most_items = most_end + SIZE_MAX

  module _ (pending : ℕ) (small : pending ≤ size_max) where
    abbrev n : Numbers
    n = numbers_of k caps b items pending

    items_few : total items ≤ end_of k caps
    items_few = weight_fits k caps b items (can_flush classes size_max caps grid kept_grid b u e spans h)
        (λ it. true)

    all_few : total (object_of pending ∷ items) ≤ most_items
    all_few = omega (
      arith,
      sum_by-cons (λ (it : Item). it.size) (object_of pending) items,
      items_few,
      end_low,
      small,
      h.small,
    )

    slack_few : n.slack ≤ most_items + 1
    slack_few = omega (
      arith,
      largest-le pending size_max items small item_small,
      h.small,
      total_is (stands_in_payload k caps) items,
      weight_fits k caps b items (can_flush classes size_max caps grid kept_grid b u e spans h)
          (stands_in_payload k caps),
      div-le_self (total (filter (stands_in_payload k caps) items)) k,
      end_low,
    )

    wall_few : n.wall ≤ 3 * most_items + most_end + 1
    wall_few =
        let laid : laid_length k (object_of pending ∷ items) b width ≤ 2 * most_items = omega (
          arith,
          laid_by_total k (object_of pending ∷ items) b,
          all_few,
        ) in
        let ends : max (end_of k caps) n.end ≤ 2 * most_items + most_end =
        max-le (omega (arith, end_low)) (omega (arith, laid, end_of-split k caps b, end_low)) in
        omega (arith, slack_few, ends)

    -- The reach of a flush is a place that a record can hold.
    pub reach_low : n.reach < 2 ^ 48
    reach_low = omega (
      arith,
      wall_few,
      reach_is k caps b items (can_flush classes size_max caps grid kept_grid b u e spans h) pending,
      weight_fits k caps b items (can_flush classes size_max caps grid kept_grid b u e spans h)
          (λ it. not (stands_in_payload k caps it)),
      end_low,
      small,
      h.small,
    )

    -- the wall stands at the end of the old layout or behind, and the file reaches past it
    pub wall_past_end : end_of k caps ≤ n.wall
    wall_past_end = omega (
      arith,
      wall_over_old_end k caps b items (can_flush classes size_max caps grid kept_grid b u e spans h) pending,
    )

    pub reach_past_wall : n.wall + pending ≤ n.reach
    reach_past_wall = omega (
      arith,
      reach_is k caps b items (can_flush classes size_max caps grid kept_grid b u e spans h) pending,
    )
