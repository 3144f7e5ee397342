-- What is counted up over the items of a flush, one item after another.
use Rattle.std.specs.Prelude.{◌≡◌, ℕ, zero, suc, ◌+◌, ◌<◌, ◌≤◌, ◌==◌, max, Bool, cond, List, [], ◌∷◌, length, take, slice_index, slice_set, Some, slice_get, false, not, true, ◌^◌}
use Rattle.std.proofs.Common.{arith, sym, ◌∙◌, ap, inl, inr, subst}
use Rattle.flush_model.specs.declared.item.Item.{Item}
use Rattle.flush_model.specs.Segments.{AreStarts, AreVolumes}
use Rattle.std.proofs.lemmas.Bool.{cases_eq, cond-false, ne_eqb, cond-true, not_from_false, cases_lt}
use Rattle.size_class.specs.Classes.{class_of, width, zero_row, IsRow}
use Rattle.flush_model.proofs.ListLaws.{cond_at_most}
use Rattle.std.proofs.lemmas.List.{get_or-set_other, get_or-set_same}
use Rattle.std.proofs.lemmas.Option.{get_or_from_slice_get, same_Some, slice_get_within}
use Rattle.flush_model.proofs.FinalLaws.{in_class_counts}
use Rattle.flush_model.specs.Plans.{largest_of, object_of, class_total, stands_in_payload, in_class, weight, laid_length, segments_length}
use Rattle.size_class.proofs.ClassLaws.{length-zero_row, zero_row-index}
use Rattle.std.proofs.lemmas.List.Sums.{sum_by-take-le, sum_by_more}
use Rattle.flush_model.proofs.PlaceLaws.{volumes_all, volumes_fit, volumes_more, segments_same}
use Rattle.flush_model.specs.Phases.{CanFlush}
use Rattle.flush_model.specs.declared.item.Numbers.{Numbers}
use Rattle.flush_model.proofs.BoundLaws.{class_rest}
use Rattle.segment_layout.specs.Shapes.{end_of}

-- the row of one object
pub volume_one : (C size : ℕ) → C ≤ width → class_of size < C → (c : ℕ) → c < C
    → slice_index (slice_set zero_row (class_of size) size) c ≡ in_class c (object_of size)
volume_one C size fits class c below = elim (cases_eq c (class_of size)) [
  | inl same ↦ ap (slice_index (slice_set zero_row (class_of size) size)) same
      ∙ get_or-set_same zero_row (class_of size) size 0 (omega (arith, class, fits, length-zero_row))
      ∙ sym (in_class_counts c (object_of size) (sym same))
  | inr other ↦ get_or-set_other zero_row (class_of size) c size 0 other ∙ zero_row-index c
      ∙ sym (cond-false (class_of size == c) size 0 (ne_eqb (class_of size) c (λ e. other (sym e))))
]

pub volume_nothing : (size c : ℕ) → size ≡ 0 → slice_index zero_row c ≡ in_class c (object_of size)
volume_nothing size c none =
    omega (arith, none, zero_row-index c, cond_at_most (class_of size == c) size)

pub got_behind : (x m : Item) (items : List Item) (i : ℕ) → slice_get items i ≡ Some m
    → slice_get (x ∷ items) (i + 1) ≡ Some m
got_behind x m items i got = let next : i + 1 ≡ suc i = omega arith in ap (slice_get (x ∷ items)) next ∙ got

-- the largest size, and the bytes that pass a test, with one item more
pub largest_more : (a : ℕ) (items : List Item) (i : ℕ) (m : Item) → slice_get items i ≡ Some m
    → largest_of (take (i + 1) items) a ≡ max (largest_of (take i items) a) m.size
largest_more a [] i m got = absurd (omega (arith, slice_get_within [] i m got))
largest_more a (x ∷ xs) zero m got = ap (λ (y : Item). max a y.size) (same_Some x m got)
largest_more a (x ∷ xs) (suc i) m got =
    let next : suc i + 1 ≡ suc (i + 1) = omega arith in
    ap (λ n. largest_of (take n (x ∷ xs)) a) next ∙ largest_more (max a x.size) xs i m got

pub weight_more : (q : Item → Bool) (items : List Item) (i : ℕ) (m : Item) → slice_get items i ≡ Some m
    → weight q (take (i + 1) items) ≡ weight q (take i items) + cond (q m) m.size 0
weight_more q items i m got = sum_by_more (λ it. cond (q it) it.size 0) items i m
    (slice_get_within items i m got)
    ∙ ap (λ (x : Item). weight q (take i items) + cond (q x) x.size 0)
    (get_or_from_slice_get items i m m got)

pub weight_take : (q : Item → Bool) (items : List Item) (i : ℕ) → weight q (take i items) ≤ weight q items
weight_take q items i = sum_by-take-le (λ it. cond (q it) it.size 0) items i

-- whether an item stands in its payload segment, as it is computed from rows that hold the layout's
pub stands_is : (C k : ℕ) (caps row starts : List ℕ) (m : Item) (stands : Bool) → row ≡ caps
    → AreStarts C k caps starts
    → ((k : ℕ) → AreStarts C k row starts → stands ≡ stands_in_payload k row m)
    → stands ≡ stands_in_payload k caps m
stands_is C k caps row starts m stands same begins is =
    subst (λ xs. stands ≡ stands_in_payload k xs m) same
    (is k (subst (λ xs. AreStarts C k xs starts) (sym same) begins))

-- what is counted up over the first items of a list and a pending object
pub record AreSums (C k : ℕ) (caps : List ℕ) (items : List Item) (pending i : ℕ) (volumes : List ℕ)
    (largest in_payload in_buffers : ℕ) : Type 0 where
  pub within : i ≤ length items
  pub totals : AreVolumes C (object_of pending ∷ items) (i + 1) volumes
  pub most : largest ≡ largest_of (take i items) pending
  pub payload : in_payload ≡ weight (stands_in_payload k caps) (take i items)
  pub buffers : in_buffers ≡ weight (λ it. not (stands_in_payload k caps it)) (take i items)

module _ (C k : ℕ) (caps : List ℕ) (items : List Item) (pending i : ℕ) (volumes : List ℕ)
    (largest in_payload in_buffers : ℕ)
    (so : AreSums C k caps items pending i volumes largest in_payload in_buffers) where
  abbrev all : List Item
  all = object_of pending ∷ items

  pub sums_whole : length items ≤ i → C ≤ length volumes → (c : ℕ) → c < C
      → slice_index volumes c ≡ class_total all c
  sums_whole ended full = volumes_all C all (i + 1) volumes full so.totals (omega (arith, ended))

  module _ (m : Item) (got : slice_get items i ≡ Some m) (class : m.class < C) (full : C ≤ length volumes)
    where
      got_next : slice_get all (i + 1) ≡ Some m
      got_next = got_behind (object_of pending) m items i got

      pub sums_fit : slice_index volumes m.class + m.size ≤ class_total all m.class
      sums_fit = volumes_fit C all (i + 1) volumes full so.totals m got_next class

      pub payload_fits : stands_in_payload k caps m ≡ true
          → in_payload + m.size ≤ weight (stands_in_payload k caps) items
      payload_fits is = omega (
        arith,
        so.payload,
        weight_more (stands_in_payload k caps) items i m got,
        cond-true (stands_in_payload k caps m) m.size 0 is,
        weight_take (stands_in_payload k caps) items (i + 1),
      )

      pub buffers_fit : stands_in_payload k caps m ≡ false
          → in_buffers + m.size ≤ weight (λ it. not (stands_in_payload k caps it)) items
      buffers_fit other =
          let q : Item → Bool = λ it. not (stands_in_payload k caps it) in
          omega (
            arith,
            so.buffers,
            weight_more q items i m got,
            cond-true (q m) m.size 0 (not_from_false (stands_in_payload k caps m) other),
            weight_take q items (i + 1),
          )

      pub sums_more : (new : List ℕ) (more in_payload' in_buffers' : ℕ)
          → new ≡ slice_set volumes m.class (slice_index volumes m.class + m.size)
          → more ≡ max largest m.size
          → in_payload' ≡ in_payload + cond (stands_in_payload k caps m) m.size 0
          → in_buffers' ≡ in_buffers + cond (not (stands_in_payload k caps m)) m.size 0
          → AreSums C k caps items pending (i + 1) new more in_payload' in_buffers'
      sums_more new more in_payload' in_buffers' is_new is_more is_payload is_buffers =
          record {
            within = omega (arith, slice_get_within items i m got);
            totals = subst (AreVolumes C all (i + 1 + 1)) (sym is_new)
                (volumes_more C all (i + 1) volumes full so.totals m got_next class);
            most = is_more ∙ ap (λ x. max x m.size) so.most ∙ sym (largest_more pending items i m got);
            payload = omega (
              arith,
              is_payload,
              so.payload,
              weight_more (stands_in_payload k caps) items i m got,
            );
            buffers = omega (
              arith,
              is_buffers,
              so.buffers,
              weight_more (λ it. not (stands_in_payload k caps it)) items i m got,
            );
          }

-- the new segments are as long where a row has the bytes of each class
pub laid_from_row : (C k : ℕ) (caps : List ℕ) (b : ℕ) (items : List Item) (flush : CanFlush k caps b items)
    (high : end_of k caps ≤ 2 ^ 54) (pending : ℕ) (small : pending ≤ 2 ^ 31) → IsRow C caps
    → (1 ≤ pending → class_of pending < C) → (volumes : List ℕ) → IsRow C volumes
    → ((c : ℕ) → c < C → slice_index volumes c ≡ class_total (object_of pending ∷ items) c)
    → segments_length k (slice_index volumes) b width ≡ laid_length k (object_of pending ∷ items) b width
laid_from_row C k caps b items flush high pending small row below volumes cells so =
    segments_same k (slice_index volumes) (class_total (object_of pending ∷ items)) b width
    (λ d low less. elim (cases_lt d C) [
      | inl has ↦ so d has
      | inr past ↦ cells.zero_above d past
          ∙ sym (class_rest k caps b items flush high pending small C row below d past)
    ])

pub same_numbers : (m n : Numbers) → m.boundary ≡ n.boundary → m.start ≡ n.start → m.wall ≡ n.wall
    → m.slack ≡ n.slack → m.reach ≡ n.reach → m.end ≡ n.end → m ≡ n
same_numbers m n boundary start wall slack reach end = λ i. record {
  boundary = boundary i;
  start = start i;
  wall = wall i;
  slack = slack i;
  reach = reach i;
  end = end i;
}
