use Rattle.std.proofs.Common.{arith, sym, ap, ◌∙◌, ◌≡◌, ◌+◌, ◌<◌, ◌≤◌, slice_index, refl, List, ℕ, ◌^◌, ◌∷◌, ◌/◌}
use Rattle.std.specs.Prelude.{filter, max}
use Rattle.size_class.specs.Classes.{width}
use Rattle.size_class.specs.Rows.{cells_of}
use Rattle.size_class.proofs.RowLaws.{row_shape}
use Rattle.segment_layout.specs.Shapes.{end_of, start_of}
use Rattle.segment_layout.specs.Layouts.{divisor_of, caps_of}
use Rattle.segment_layout.specs.declared.layout.Layout.{Layout}
use Rattle.segment_layout.proofs.LayoutLaws.{layout_shape}
use Rattle.flush_model.specs.Phases.{CanFlush}
use Rattle.flush_model.specs.declared.item.Item.{Item}
use Rattle.flush_model.specs.declared.item.Numbers.{Numbers}
use Rattle.flush_model.specs.Plans.{laid_length, numbers_of, object_of, segments_length, stands_in_payload, total}
use Rattle.flush_model.proofs.BoundLaws.{end_small, wall_small, reach_small}
use Rattle.flush_model.proofs.ItemLaws.{total_is}
use Rattle.flush_model.proofs.NumbersLaws.{reach_is, wall_over_new_end}
use Rattle.flush_model.proofs.SumLaws.{laid_from_row, same_numbers}
use Rattle.flush_plan.specs.declared.counts.Count.{Count}
use Rattle.flush_plan.specs.Shelves.{from_place, IsOnShelf}
use Rattle.flush_plan.proofs.CountLaws.{flush_permuted, numbers_permuted}
use Rattle.flush_plan.proofs.counts.numbers.Given.{Over}
use Rattle.flush_plan.proofs.counts.numbers.Goals.{After-places_of-arg-1}
use Rattle.flush_plan.proofs.counts.numbers.Goals as goal

-- the objects of the shelf can be flushed, in their order there
shelf_flush : {C : ℕ} (layout : Layout C) (b : ℕ) (xs : List Item)
    → (items : List Item) × CanFlush (divisor_of layout) (caps_of layout) b items
    × IsOnShelf (start_of (divisor_of layout) (caps_of layout) b) items xs
    → CanFlush (divisor_of layout) (caps_of layout) b
    (from_place (start_of (divisor_of layout) (caps_of layout) b) xs)
shelf_flush layout b xs h =
    flush_permuted h.0 (from_place (start_of (divisor_of layout) (caps_of layout) b) xs) h.2.same
    (divisor_of layout) (caps_of layout) b h.1

-- what was counted up over the objects of the shelf
module _ (g : Over) (c : After-places_of-arg-1 g) where
  abbrev k : ℕ
  k = divisor_of c.args.layout.now

  abbrev caps : List ℕ
  caps = caps_of c.args.layout.now

  abbrev items : List Item
  items = from_place (start_of k caps c.args.b) (g.S.Shelf.items c.args.shelf.now)

  abbrev n : Numbers
  n = numbers_of k caps c.args.b items c.args.pending

  abbrev count : Count g.row.C
  count = c.count_from-count.result

  flush : CanFlush k caps c.args.b items
  flush = shelf_flush c.args.layout.now c.args.b (g.S.Shelf.items c.args.shelf.now) c.requires.flush

  high : end_of k caps ≤ 2 ^ 54
  high = end_small k caps (layout_shape c.args.layout.now).caps_high (row_shape c.args.layout.now.caps).full

  -- the new segments are as long as the row says
  laid : segments_length k (slice_index (cells_of count.volumes)) c.args.b width
      ≡ laid_length k (object_of c.args.pending ∷ items) c.args.b width
  laid = laid_from_row g.row.C k caps c.args.b items flush high c.args.pending c.requires.high
      (row_shape c.args.layout.now.caps) c.requires.class (cells_of count.volumes) (row_shape count.volumes)
      c.count_from-count.ensures.totals

  wall_low : n.wall ≤ 2 ^ 62
  wall_low = wall_small k caps c.args.b items flush high c.args.pending c.requires.high

  reach_low : n.reach < 2 ^ 63
  reach_low = reach_small k caps c.args.b items flush high c.args.pending c.requires.high

  end_is : c.start-start.result
      + segments_length c.k-k.result (slice_index (cells_of count.volumes)) c.args.b width ≡ n.end
  end_is = omega (
    arith,
    c.start-start.ensures.place,
    laid,
    ap (λ x. segments_length x (slice_index (cells_of count.volumes)) c.args.b width) c.k-k.ensures,
  )

  end_low : n.end ≤ 2 ^ 62
  end_low = omega (arith, wall_low, wall_over_new_end k caps c.args.b items flush c.args.pending)

  slack_is : count.largest + (count.in_payload / c.k-k.result + 1) ≡ n.slack
  slack_is =
      let whole : count.in_payload ≡ total (filter (stands_in_payload k caps) items) =
      c.count_from-count.ensures.payload ∙ sym (total_is (stands_in_payload k caps) items) in
      omega (
        arith,
        c.count_from-count.ensures.most,
        ap (λ x. x / c.k-k.result) whole,
        ap (λ x. total (filter (stands_in_payload k caps) items) / x) c.k-k.ensures,
      )

  slack_low : n.slack ≤ 2 ^ 62
  slack_low = omega (arith, wall_low, wall_over_new_end k caps c.args.b items flush c.args.pending)

  module _ (top old end : ℕ) (is_top : top ≡ max old end) (is_old : old ≡ end_of k caps)
      (is_end : end ≡ c.start-start.result
      + segments_length c.k-k.result (slice_index (cells_of count.volumes)) c.args.b width) where
    wall_is : top + (count.largest + (count.in_payload / c.k-k.result + 1)) ≡ n.wall
    wall_is = omega (
      arith,
      is_top,
      ap (λ x. max x end) is_old,
      ap (λ x. max (end_of k caps) x) (is_end ∙ end_is),
      slack_is,
    )

    reach_fits : top + (count.largest + (count.in_payload / c.k-k.result + 1)) + count.in_buffers
        + c.args.pending ≡ n.reach
    reach_fits = omega (
      arith,
      wall_is,
      c.count_from-count.ensures.buffers,
      reach_is k caps c.args.b items flush c.args.pending,
    )

    reach_stays : top + (count.largest + (count.in_payload / c.k-k.result + 1)) + count.in_buffers
        + c.args.pending < 2 ^ 63
    reach_stays = omega (arith, reach_fits, reach_low)

    all_is : (record {
      boundary = c.args.b;
      start = c.start-start.result;
      wall = top + (count.largest + (count.in_payload / c.k-k.result + 1));
      slack = count.largest + (count.in_payload / c.k-k.result + 1);
      reach = top + (count.largest + (count.in_payload / c.k-k.result + 1)) + count.in_buffers
          + c.args.pending;
      end = end;
    }) ≡ n
    all_is = same_numbers _ n refl c.start-start.ensures.place wall_is slack_is reach_fits (is_end ∙ end_is)

pub count_from-count-requires : goal.count_from-count-requires
count_from-count-requires g c = (
  omega arith,
  (
    omega arith,
    (
      c.requires.fits,
      (
        c.requires.boundary,
        (
          c.requires.flush.2.rises,
          (
            shelf_flush c.args.layout.now c.args.b (g.S.Shelf.items c.args.shelf.now) c.requires.flush,
            (c.requires.high, c.requires.class),
          ),
        ),
      ),
    ),
  ),
)

pub places_of-end-requires : goal.places_of-end-requires
places_of-end-requires g c =
    let at = (goal.at.places_of-end-requires g c).After-places_of-arg-1 in (
      omega arith,
      (
        c.requires.fits,
        (
          omega (arith, c.requires.boundary),
          (
            omega (arith, (layout_shape c.args.layout.now).k_low, c.k-k.ensures),
            omega (arith, end_is g at, end_low g at),
          ),
        ),
      ),
    )

pub overflow_add-slack-2 : goal.overflow_add-slack-2
overflow_add-slack-2 g c =
    let at = (goal.at.overflow_add-slack-2 g c).After-places_of-arg-1 in
    omega (arith, slack_is g at, slack_low g at)

pub overflow_add-wall : goal.overflow_add-wall
overflow_add-wall g c =
    let at = (goal.at.overflow_add-wall g c).After-places_of-arg-1 in
    omega (
      arith,
      wall_is g at c.max.result c.end.result c.places_of-end.result.1 c.max.ensures c.end.ensures.place
          c.places_of-end.ensures.end,
      wall_low g at,
    )

pub overflow_add-result : goal.overflow_add-result
overflow_add-result g c =
    let stays = reach_stays g (goal.at.overflow_add-result g c).After-places_of-arg-1 c.max.result
    c.end.result c.places_of-end.result.1 c.max.ensures c.end.ensures.place c.places_of-end.ensures.end in
    omega (arith, stays)

pub overflow_add-result-2 : goal.overflow_add-result-2
overflow_add-result-2 g c =
    let stays = reach_stays g (goal.at.overflow_add-result-2 g c).After-places_of-arg-1 c.max.result
    c.end.result c.places_of-end.result.1 c.max.ensures c.end.ensures.place c.places_of-end.ensures.end in
    omega (arith, stays)

pub returns : goal.returns
returns g c = λ items on.
    let at = (goal.at.returns g c).After-places_of-arg-1 in
    all_is g at c.max.result c.end.result c.places_of-end.result.1 c.max.ensures c.end.ensures.place
    c.places_of-end.ensures.end
    ∙ numbers_permuted items
    (from_place (start_of (divisor_of c.args.layout.now) (caps_of c.args.layout.now) c.args.b)
    (g.S.Shelf.items c.args.shelf.now)) on.same (divisor_of c.args.layout.now) (caps_of c.args.layout.now)
    c.args.b c.args.pending
