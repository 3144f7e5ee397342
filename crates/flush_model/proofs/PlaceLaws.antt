-- The bytes of each class, and where each class's new segment begins, as they are counted up.
use Rattle.std.specs.Prelude.{◌≡◌, ℕ, ◌+◌, ◌-◌, ◌^◌, ◌<◌, ◌≤◌, ◌==◌, List, [], length, take, slice_index, slice_set, Some, slice_get, Contains, sum_by, refl, suc, zero, ◌/◌}
use Rattle.std.proofs.Common.{arith, sym, ◌∙◌, ap, inl, inr}
use Rattle.std.proofs.lemmas.Bool.{cases_eq, cases_order, cond-false, ne_eqb}
use Rattle.std.proofs.lemmas.List.{get_or-set_other, get_or-set_same, take_all}
use Rattle.std.proofs.lemmas.List.Sums.{sum_by-cons, sum_by-take-le, sum_by_more}
use Rattle.std.proofs.lemmas.Option.{get_or_from_slice_get, slice_get_within}
use Rattle.byte_ranges.specs.Lists.{counting_from}
use Rattle.size_class.specs.Classes.{zero_row, width}
use Rattle.size_class.proofs.ClassLaws.{zero_row-index}
use Rattle.flush_model.specs.declared.item.Item.{Item}
use Rattle.flush_model.specs.Plans.{class_total, in_class, segments_length, AreBelow, AreSmall}
use Rattle.flush_model.specs.Phases.{PlanState, IsPacking}
use Rattle.flush_model.specs.Segments.{AreVolumes}
use Rattle.flush_model.proofs.FinalLaws.{class_total_is, in_class_counts, laid_length_split, laid_length_class}
use Rattle.segment_layout.specs.Shapes.{buffer_of, start_of}
use Rattle.segment_layout.proofs.ShapeLaws.{buffer_of-zero, start_of-le}
use Rattle.flush_model.proofs.ListLaws.{counting_split}
use Rattle.segment_layout.specs.declared.layout.Layout.{Layout}
use Rattle.segment_layout.specs.Layouts.{caps_of, divisor_of}
use Rattle.segment_layout.proofs.LayoutLaws.{layout_shape}
use Rattle.size_class.proofs.RowLaws.{row_shape}
use Rattle.flush_model.proofs.BoundLaws.{end_small}

pub volumes_none : (C : ℕ) (items : List Item) → AreVolumes C items 0 zero_row
volumes_none C items c below = zero_row-index c

module _ (C : ℕ) (items : List Item) (i : ℕ) (cells : List ℕ) (full : C ≤ length cells)
    (so : AreVolumes C items i cells) where
  pub volumes_all : length items ≤ i → (c : ℕ) → c < C → slice_index cells c ≡ class_total items c
  volumes_all ended c below = so c below ∙ ap (sum_by (in_class c)) (take_all i items ended)
      ∙ sym (class_total_is items c)

  module _ (m : Item) (got : slice_get items i ≡ Some m) (class : m.class < C) where
    more : (c : ℕ) → sum_by (in_class c) (take (i + 1) items)
        ≡ sum_by (in_class c) (take i items) + in_class c m
    more c = sum_by_more (in_class c) items i m (slice_get_within items i m got)
        ∙ ap (λ (x : Item). sum_by (in_class c) (take i items) + in_class c x)
        (get_or_from_slice_get items i m m got)

    pub volumes_fit : slice_index cells m.class + m.size ≤ class_total items m.class
    volumes_fit = omega (
      arith,
      so m.class class,
      more m.class,
      in_class_counts m.class m refl,
      sum_by-take-le (in_class m.class) items (i + 1),
      class_total_is items m.class,
    )

    pub volumes_more : AreVolumes C items (i + 1)
        (slice_set cells m.class (slice_index cells m.class + m.size))
    volumes_more c below = elim (cases_eq c m.class) [
      | inl same ↦ omega (
        arith,
        ap (slice_index (slice_set cells m.class (slice_index cells m.class + m.size))) same,
        get_or-set_same cells m.class (slice_index cells m.class + m.size) 0 (omega (arith, class, full)),
        so c below,
        ap (slice_index cells) same,
        more c,
        in_class_counts c m (sym same),
      )
      | inr other ↦ omega (
        arith,
        get_or-set_other cells m.class c (slice_index cells m.class + m.size) 0 other,
        so c below,
        more c,
        cond-false (m.class == c) m.size 0 (ne_eqb m.class c (λ e. other (sym e))),
      )
    ]

-- ---- new segments

module _ (k : ℕ) (volume : ℕ → ℕ) where
  pub segments_next : (b d : ℕ) → b ≤ d
      → segments_length k volume b (d + 1)
      ≡ segments_length k volume b d + (volume d + buffer_of k (volume d))
  segments_next b d low =
      let f : ℕ → ℕ = λ c. volume c + buffer_of k (volume c) in
      let whole : d + 1 - b ≡ d - b + 1 = omega (arith, low) in
      let from : b + (d - b) ≡ d = omega (arith, low) in
      omega (
        arith,
        ap (λ x. sum_by f (counting_from b x)) whole,
        counting_split f b (d - b) 1,
        ap (λ x. sum_by f (counting_from x 1)) from,
        sum_by-cons f d [],
      )

  pub segments_rise : (b c d : ℕ) → b ≤ c → c ≤ d
      → segments_length k volume b c ≤ segments_length k volume b d
  segments_rise b c d low high =
      let f : ℕ → ℕ = λ x. volume x + buffer_of k (volume x) in
      let whole : c - b + (d - c) ≡ d - b = omega (arith, low, high) in
      omega (arith, counting_split f b (c - b) (d - c), ap (λ x. sum_by f (counting_from b x)) whole)

  -- classes without bytes add nothing
  pub segments_rest : (b c d : ℕ) → b ≤ c → c ≤ d → ((x : ℕ) → c ≤ x → volume x ≡ 0)
      → segments_length k volume b c ≡ segments_length k volume b d
  segments_rest b c d low high none =
      let f : ℕ → ℕ = λ x. volume x + buffer_of k (volume x) in
      let whole : c - b + (d - c) ≡ d - b = omega (arith, low, high) in
      let from : b + (c - b) ≡ c = omega (arith, low) in
      omega (
        arith,
        counting_split f b (c - b) (d - c),
        ap (λ x. sum_by f (counting_from b x)) whole,
        ap (λ x. sum_by f (counting_from x (d - c))) from,
        nothing f c (d - c)
            (λ x past. omega (arith, none x past, ap (buffer_of k) (none x past), buffer_of-zero k)),
      )
    where
      nothing : (f : ℕ → ℕ) (first n : ℕ) → ((x : ℕ) → first ≤ x → f x ≡ 0)
          → sum_by f (counting_from first n) ≡ 0
      nothing f first zero each = refl
      nothing f first (suc n) each = omega (
        arith,
        sum_by-cons f first (counting_from (first + 1) n),
        each first (omega arith),
        nothing f (first + 1) n (λ x past. each x (omega (arith, past))),
      )

-- a segment of a class lies within the new segments
pub segments_fit : (k : ℕ) (volume : ℕ → ℕ) (b d : ℕ) → b ≤ d → d < width
    → segments_length k volume b d + (volume d + buffer_of k (volume d)) ≤ segments_length k volume b width
segments_fit k volume b d low high = omega (
  arith,
  segments_next k volume b d low,
  segments_rise k volume b (d + 1) width (omega (arith, low)) (omega (arith, high)),
)

-- and the segment of a class of a layout lies within the layout
pub start_adds : {C : ℕ} (layout : Layout C) (d : ℕ) → d < width
    → start_of (divisor_of layout) (caps_of layout) d + (slice_index (caps_of layout) d
    + buffer_of (divisor_of layout) (slice_index (caps_of layout) d)) ≤ 2 ^ 54
start_adds layout d high =
    let row = row_shape layout.caps in
    omega (
      arith,
      start_of-le (divisor_of layout) (caps_of layout) d (omega (arith, row.full, high)),
      end_small (divisor_of layout) (caps_of layout) (layout_shape layout).caps_high row.full,
    )

-- one cell more of a row whose cells from b on are known
pub cells_more : (f : ℕ → ℕ) (b d at : ℕ) (cells : List ℕ) → d < length cells → at ≡ f d
    → ((c : ℕ) → b ≤ c → c < d → slice_index cells c ≡ f c)
    → (c : ℕ) → b ≤ c → c < d + 1 → slice_index (slice_set cells d at) c ≡ f c
cells_more f b d at cells within is so c from below = elim (cases_order c d) [
  | inl same ↦ ap (slice_index (slice_set cells d at)) same ∙ get_or-set_same cells d at 0 within ∙ is
      ∙ ap f (sym same)
  | inr (inl less) ↦ get_or-set_other cells d c at 0 (λ e. absurd (omega (arith, less, e))) ∙ so c from less
  | inr (inr more) ↦ absurd (omega (arith, below, more))
]

-- a payload segment with its buffer, as it is computed
pub segment_is : (k divisor cap volume : ℕ) → divisor ≡ k → volume ≡ cap
    → volume + volume / divisor ≡ cap + buffer_of k cap
segment_is k divisor cap volume same is =
    ap (λ x. x + x / divisor) is ∙ ap (λ x. cap + cap / x) same

-- where the classes have as many bytes, the segments are as long
pub segments_same : (k : ℕ) (u v : ℕ → ℕ) (b c : ℕ) → ((d : ℕ) → b ≤ d → d < c → u d ≡ v d)
    → segments_length k u b c ≡ segments_length k v b c
segments_same k u v b c each = by b (c - b) (λ d low high. each d low (omega (arith, high)))
  where
    by : (first n : ℕ) → ((d : ℕ) → first ≤ d → d < first + n → u d ≡ v d)
        → sum_by (λ d. u d + buffer_of k (u d)) (counting_from first n)
        ≡ sum_by (λ d. v d + buffer_of k (v d)) (counting_from first n)
    by first zero same = refl
    by first (suc n) same =
        omega (
          arith,
          sum_by-cons (λ d. u d + buffer_of k (u d)) first (counting_from (first + 1) n),
          sum_by-cons (λ d. v d + buffer_of k (v d)) first (counting_from (first + 1) n),
          same first (omega arith) (omega arith),
          ap (buffer_of k) (same first (omega arith) (omega arith)),
          by (first + 1) n (λ d low high. same d (omega (arith, low)) (omega (arith, high))),
        )

-- the bytes of a class are a number of 64 bits
pub totals_low : (C : ℕ) (p : PlanState) → C ≤ width → IsPacking p → AreBelow C p.items
    → AreSmall p.numbers p.items
    → (it : Item) → Contains p.items it → class_total p.items it.class < 2 ^ 64
totals_low C p fits is classes small it has =
    let below : it.class < width = omega (arith, classes it has, fits) in
    omega (
      arith,
      laid_length_class p.k p.items it.class width below,
      laid_length_split p.k p.items p.numbers.boundary it.class width (is.items.from it has)
          (omega (arith, below)),
      is.resumes.wall,
      is.reaches,
      small.0,
    )
