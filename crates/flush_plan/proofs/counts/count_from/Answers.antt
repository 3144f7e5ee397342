use Rattle.std.proofs.Common.{arith, sym, ap, ◌∙◌, subst, ◌≡◌, ◌+◌, ◌-◌, ◌<◌, ◌≤◌, ℕ, Bool, List, Some, true, false, length, slice_get}
use Rattle.std.specs.Prelude.{Contains, slice_index, slice_set, take, not, ◌^◌}
use Rattle.std.proofs.lemmas.Bool.{cond-false, cond-true, not_from_false, not_from_true}
use Rattle.std.proofs.lemmas.List.{take_all}
use Rattle.size_class.specs.Rows.{cells_of}
use Rattle.size_class.specs.declared.row.Row.{Row}
use Rattle.size_class.proofs.RowLaws.{row_shape}
use Rattle.segment_layout.specs.Shapes.{end_of, start_of}
use Rattle.segment_layout.specs.Layouts.{divisor_of, caps_of}
use Rattle.segment_layout.specs.declared.layout.Layout.{Layout}
use Rattle.segment_layout.proofs.LayoutLaws.{layout_shape}
use Rattle.flush_model.specs.declared.item.Item.{Item}
use Rattle.flush_model.specs.Segments.{AreStarts}
use Rattle.flush_model.specs.Plans.{largest_of, stands_in_payload, weight}
use Rattle.flush_model.proofs.BoundLaws.{class_small, end_small, flush_below, weight_fits}
use Rattle.flush_model.proofs.NumbersLaws.{item_ends}
use Rattle.flush_model.proofs.PlaceLaws.{start_adds}
use Rattle.flush_model.proofs.SumLaws.{AreSums, buffers_fit, payload_fits, stands_is, sums_fit, sums_more, sums_whole}
use Rattle.flush_plan.specs.declared.counts.Count.{Count}
use Rattle.flush_plan.specs.Counts.{IsCount}
use Rattle.flush_plan.specs.Shelves.{from_place, IsRank}
use Rattle.flush_plan.proofs.ShelfLaws.{from_at, from_length, got_has}
use Rattle.flush_plan.proofs.counts.count_from.Given.{Over}
use Rattle.flush_plan.proofs.counts.count_from.Goals.{After-caps-1, After-volumes-1, then-stands, else-stands}
use Rattle.flush_plan.proofs.counts.count_from.Goals as goal

full : {C : ℕ} (row : Row C) → C ≤ 32 → C ≤ length (cells_of row)
full row fits = omega (arith, (row_shape row).full, fits)

-- the rank of where the layout says that the objects begin
rank_is : {C : ℕ} (layout : Layout C) (b start first : ℕ) (xs : List Item)
    → start ≡ start_of (divisor_of layout) (caps_of layout) b → IsRank xs start first
    → IsRank xs (start_of (divisor_of layout) (caps_of layout) b) first
rank_is layout b start first xs place is = subst (λ s. IsRank xs s first) place is

-- what is known of the object that is read, as one of those that are counted
module _ (g : Over) (c : After-volumes-1 g) where
  abbrev k : ℕ
  k = divisor_of c.args.layout.now

  abbrev caps : List ℕ
  caps = caps_of c.args.layout.now

  abbrev m : Item
  m = c.item-item.result

  abbrev items : List Item
  items = from_place (start_of k caps c.args.b) (g.S.Shelf.items c.args.shelf.now)

  got : slice_get items (c.ranks.rank - c.rank_from-first.result) ≡ Some m
  got = from_at (start_of k caps c.args.b) (g.S.Shelf.items c.args.shelf.now) c.rank_from-first.result
      (rank_is c.args.layout.now c.args.b c.start.result c.rank_from-first.result
      (g.S.Shelf.items c.args.shelf.now) c.start.ensures.place c.rank_from-first.ensures)
      c.ranks.rank m c.ranks.invariant.0 c.item-item.ensures

  has : Contains items m
  has = got_has items (c.ranks.rank - c.rank_from-first.result) m got

  class : m.class < g.row.C
  class = flush_below k caps c.args.b items c.requires.flush g.row.C (row_shape c.args.layout.now.caps) m has

  high : end_of k caps ≤ 2 ^ 54
  high = end_small k caps (layout_shape c.args.layout.now).caps_high (row_shape c.args.layout.now.caps).full

  ends : m.place + m.size ≤ 2 ^ 54
  ends = omega (arith, item_ends k caps c.args.b items c.requires.flush 0 m has, high)

  fits : (q : Item → Bool) → weight q items ≤ 2 ^ 54
  fits q = omega (arith, weight_fits k caps c.args.b items c.requires.flush q, high)

  volume_fits : slice_index (cells_of c.ranks.volumes) m.class + m.size ≤ 2 ^ 55
  volume_fits = omega (
    arith,
    sums_fit g.row.C k caps items c.args.pending (c.ranks.rank - c.rank_from-first.result)
        (cells_of c.ranks.volumes) c.ranks.largest c.ranks.in_payload c.ranks.in_buffers c.ranks.invariant.1
        m got class (full c.ranks.volumes c.requires.fits),
    class_small k caps c.args.b items c.requires.flush high c.args.pending c.requires.high m.class,
  )

  in_payload_fits : stands_in_payload k caps m ≡ true → c.ranks.in_payload + m.size ≤ 2 ^ 54
  in_payload_fits stands = omega (
    arith,
    payload_fits g.row.C k caps items c.args.pending (c.ranks.rank - c.rank_from-first.result)
        (cells_of c.ranks.volumes) c.ranks.largest c.ranks.in_payload c.ranks.in_buffers c.ranks.invariant.1
        m got class (full c.ranks.volumes c.requires.fits) stands,
    fits (stands_in_payload k caps),
  )

  in_buffers_fits : stands_in_payload k caps m ≡ false → c.ranks.in_buffers + m.size ≤ 2 ^ 54
  in_buffers_fits other = omega (
    arith,
    buffers_fit g.row.C k caps items c.args.pending (c.ranks.rank - c.rank_from-first.result)
        (cells_of c.ranks.volumes) c.ranks.largest c.ranks.in_payload c.ranks.in_buffers c.ranks.invariant.1
        m got class (full c.ranks.volumes c.requires.fits) other,
    fits (λ it. not (stands_in_payload k caps it)),
  )

-- whether it stands in its payload segment is read off the rows
standing : (g : Over) (c : After-caps-1 g) (stands : Bool)
    → ((k : ℕ) → AreStarts g.row.C k (cells_of c.caps-caps.result) (cells_of c.starts_of-starts.result)
    → stands ≡ stands_in_payload k (cells_of c.caps-caps.result) c.item-item.result)
    → stands ≡ stands_in_payload (divisor_of c.args.layout.now) (caps_of c.args.layout.now) c.item-item.result
standing g c stands is = stands_is g.row.C (divisor_of c.args.layout.now) (caps_of c.args.layout.now)
    (cells_of c.caps-caps.result) (cells_of c.starts_of-starts.result) c.item-item.result stands
    c.caps-caps.ensures c.starts_of-starts.ensures is

-- once all are counted
count_whole : {C : ℕ} (k : ℕ) (caps : List ℕ) (items : List Item) (pending i : ℕ) (count : Count C)
    → AreSums C k caps items pending i (cells_of count.volumes) count.largest count.in_payload
    count.in_buffers
    → C ≤ length (cells_of count.volumes) → length items ≤ i → IsCount k caps pending items count
count_whole {C} k caps items pending i count so wide ended =
    let all : take i items ≡ items = take_all i items ended in
    record {
      totals = sums_whole C k caps items pending i (cells_of count.volumes) count.largest count.in_payload
          count.in_buffers so ended wide;
      most = so.most ∙ ap (λ xs. largest_of xs pending) all;
      payload = so.payload ∙ ap (weight (stands_in_payload k caps)) all;
      buffers = so.buffers ∙ ap (weight (λ it. not (stands_in_payload k caps it))) all;
    }

pub get-requires : goal.get-requires
get-requires g c = (
  omega arith,
  (class g (goal.at.get-requires g c).After-volumes-1, c.requires.fits),
)

pub overflow_add-more : goal.overflow_add-more
overflow_add-more g c =
    omega (arith, c.get.ensures, volume_fits g (goal.at.overflow_add-more g c).After-volumes-1)

pub set-requires : goal.set-requires
set-requires g c = (
  omega arith,
  (class g (goal.at.set-requires g c).After-volumes-1, c.requires.fits),
)

pub stands-requires : goal.stands-requires
stands-requires g c =
    let layout = c.args.layout.now in
    let m = c.item-item.result in
    let at = (goal.at.stands-requires g c).After-volumes-1 in
    let below = class g at in
    let cap : slice_index (cells_of c.caps-caps.result) m.class ≡ slice_index (caps_of layout) m.class =
    ap (λ ys. slice_index ys m.class) c.caps-caps.ensures in
    let start = start_adds layout m.class (omega (arith, below, c.requires.fits)) in (
      omega arith,
      (
        c.requires.fits,
        (
          below,
          (omega (arith, ends g at), omega (arith, cap, c.starts_of-starts.ensures m.class below, start)),
        ),
      ),
    )

pub overflow_add-in_payload : goal.overflow_add-in_payload
overflow_add-in_payload g c =
    let at = goal.at.overflow_add-in_payload g c in
    let stands = standing g at.After-caps-1 c.stands.result c.stands.ensures in
    omega (arith, in_payload_fits g at.After-volumes-1 (sym stands ∙ c.if-stands.true))

pub overflow_add-in_buffers : goal.overflow_add-in_buffers
overflow_add-in_buffers g c =
    let at = goal.at.overflow_add-in_buffers g c in
    let stands = standing g at.After-caps-1 c.stands.result c.stands.ensures in
    omega (arith, in_buffers_fits g at.After-volumes-1 (sym stands ∙ c.if-stands.false))

pub ranks-preserved : goal.ranks-preserved
ranks-preserved g c =
    let layout = c.args.layout.now in
    let k = divisor_of layout in
    let caps = caps_of layout in
    let at = goal.at.ranks-preserved g c in
    let items = from_place (start_of k caps c.args.b) (g.S.Shelf.items c.args.shelf.now) in
    let first = c.rank_from-first.result in
    let m = c.item-item.result in
    let next : c.ranks.rank - first + 1 ≡ c.ranks.rank + 1 - first = omega (arith, c.ranks.invariant.0) in
    let stands = standing g at.After-caps-1 c.stands.result c.stands.ensures in
    let more = sums_more g.row.C k caps items c.args.pending (c.ranks.rank - first) (cells_of c.ranks.volumes)
    c.ranks.largest c.ranks.in_payload c.ranks.in_buffers c.ranks.invariant.1 m (got g at.After-volumes-1)
    (class g at.After-volumes-1)
    (full c.ranks.volumes c.requires.fits) (cells_of c.set.new.self) c.max-largest.result
    c.if-stands.in_payload c.if-stands.in_buffers
    (c.set.ensures ∙ ap (λ v. slice_set (cells_of c.ranks.volumes) m.class (v + m.size)) c.get.ensures)
    c.max-largest.ensures in (
      omega (arith, c.ranks.invariant.0),
      subst (λ i. AreSums g.row.C k caps items c.args.pending i (cells_of c.set.new.self) c.max-largest.result
          c.if-stands.in_payload c.if-stands.in_buffers) next
          (elim c.if-stands.branch [
            | then-stands w ↦
                let stays : stands_in_payload k caps m ≡ true = sym stands ∙ w.if-stands.true in
                more (omega (arith, w.in_payload-is, cond-true (stands_in_payload k caps m) m.size 0 stays))
                (omega (
                  arith,
                  w.in_buffers-is,
                  cond-false (not (stands_in_payload k caps m)) m.size 0
                      (not_from_true (stands_in_payload k caps m) stays),
                ))
            | else-stands w ↦
                let other : stands_in_payload k caps m ≡ false = sym stands ∙ w.if-stands.false in
                more (omega (arith, w.in_payload-is, cond-false (stands_in_payload k caps m) m.size 0 other))
                (omega (
                  arith,
                  w.in_buffers-is,
                  cond-true (not (stands_in_payload k caps m)) m.size 0
                      (not_from_false (stands_in_payload k caps m) other),
                ))
          ]),
    )

pub returns : goal.returns
returns g c =
    let layout = c.args.layout.now in
    let k = divisor_of layout in
    let caps = caps_of layout in
    let xs = g.S.Shelf.items c.args.shelf.now in
    let first = c.rank_from-first.result in
    let is = rank_is layout c.args.b c.start.result first xs c.start.ensures.place
    c.rank_from-first.ensures in
    count_whole k caps (from_place (start_of k caps c.args.b) xs) c.args.pending (c.ranks.rank - first) _
    c.ranks.invariant.1 (full c.ranks.volumes c.requires.fits)
    (omega (arith, c.ranks-test.false, c.len-len.ensures, from_length (start_of k caps c.args.b) xs first is))
