-- How long a file is that opens by a settled table.
use Rattle.std.specs.Prelude.{◌≡◌, ℕ, ◌+◌, ◌<◌, ◌≤◌, nat_lt, List, length, take, drop, slice_index, refl}
use Rattle.std.proofs.Common.{arith, ap, ◌∙◌, subst, inl, inr}
use Rattle.std.proofs.lemmas.Bool.{cases_lt, lt-ltb, le-ltb, cond-false, cond-true}
use Rattle.std.proofs.lemmas.List.{take-append-drop}
use Rattle.std.proofs.lemmas.List.Sums.{sum_by-append}
use Rattle.size_class.specs.Classes.{class_of}
use Rattle.size_class.proofs.ClassLaws.{class_low, power_rises}
use Rattle.size_class.specs.declared.TheConstants.{CLASSES, SIZE_MAX}
use Rattle.slot_codec.specs.Choice as choice
use Rattle.slot_codec.specs.declared.codec.Record.{Record}
use Rattle.slot_codec.specs.declared.codec.Kind.{Kind}
use Rattle.slot_codec.specs.declared.codec.Kind.TheVariants as kind
use Rattle.map_model.specs.Maps.{Map}
use Rattle.map_model.proofs.MapLaws.{sum_by-map}
use Rattle.segment_layout.specs.Shapes.{buffer_of, end_of, settled_caps}
use Rattle.segment_layout.specs.Books.{Book, book_end, volumes_of_sizes}
use Rattle.segment_layout.proofs.BalanceLaws.{bytes_in, bytes_in-none, bytes_in-other}
use Rattle.segment_layout.proofs.BookLaws.{sum_by_none, volumes_of_sizes-index}
use Rattle.segment_layout.proofs.ShapeLaws.{end_of-rest}
use Rattle.segment_layout.proofs.SumLaws.{sum_by_same_places}
use Rattle.table_rules.specs.Opening.{OpensBy, placed_table}
use Rattle.table_rules.specs.Tables.{TableInLayout, boundary_of_kind, end_of_record, last_end, no_record, nth, sizes}
use Rattle.placement_model.proofs.OpenedLaws.{opens_long}
use Rattle.store_model.specs.Opened.{RestsOnFound, found_base}
use Rattle.disk_face.specs.Counts.{counted, last}
use Rattle.disk_face.specs.Moments.{Leaves, LeftOnly}
use Rattle.disk_face.specs.States.{IsLawful, State}
use Rattle.served_file.specs.Served.{turn_opened}

module _ (t : choice.SlotTable) (file : List ℕ) (m : Map) (b : Book)
    (o : OpensBy CLASSES SIZE_MAX t file m b) where
  abbrev placed : TableInLayout
  placed = placed_table CLASSES SIZE_MAX file t

  abbrev volumes : List ℕ
  volumes = volumes_of_sizes (sizes t.records)

  abbrev k : ℕ
  k = t.chosen.block.k

  -- a size that is allowed is of a class in use
  low_class : (size : ℕ) → 0 < size → size ≤ SIZE_MAX → class_of size < CLASSES
  low_class size some small = elim (cases_lt (class_of size) CLASSES) [
    | inl low ↦ low
    | inr high ↦ absurd (omega (
      arith,
      class_low size (omega (arith, some)),
      power_rises CLASSES (class_of size) high,
      small,
    ))
  ]

  none_past : (c : ℕ) → CLASSES ≤ c → slice_index volumes c ≡ 0
  none_past c past =
      volumes_of_sizes-index (sizes t.records) c
      ∙ sum_by-map (λ size. bytes_in c size) (λ (r : Record). r.size) t.records
      ∙ sum_by_same_places no_record (λ r. bytes_in c r.size) (λ r. 0) t.records each
      ∙ sum_by_none (λ (r : Record). 0) t.records (λ r. refl)
    where
      each : (i : ℕ) → i < length t.records → bytes_in c (nth placed i).size ≡ 0
      each i within =
          let size = (nth placed i).size in
          elim (cases_lt 0 size) [
            | inr none ↦ let e : size ≡ 0 = omega (arith, none) in ap (bytes_in c) e ∙ bytes_in-none c
            | inl some ↦
                let low = low_class size some (o.valid.0.places.sizes i within) in
                bytes_in-other c size (λ e. absurd (omega (arith, low, past, e)))
          ]

  -- what stands past the classes in use has no bytes
  past_end : end_of k (drop CLASSES volumes) ≡ 0
  past_end =
      let whole = ap (λ (xs : List ℕ). end_of k xs) (take-append-drop CLASSES volumes) in
      let parts = sum_by-append (λ v. v + buffer_of k v) (take CLASSES volumes) (drop CLASSES volumes) in
      let front = end_of-rest k volumes CLASSES none_past in
      omega (arith, whole, parts, front)

  end_by : (q : Kind) → q ≡ kind.Settled → last_end placed q
      ≡ end_of k (settled_caps (boundary_of_kind CLASSES q t.chosen.header.boundary) t.chosen.header.caps
      volumes)
  end_by kind.Settled is =
      let parts = sum_by-append (λ v. v + buffer_of k v) (take CLASSES t.chosen.header.caps)
      (drop CLASSES volumes) in
      omega (arith, parts, past_end)
  end_by kind.Moving is = absurd (cc)

  -- a settled file reaches to the end of its layout
  pub layout_within : t.chosen.header.kind ≡ kind.Settled → found_base t + book_end k b ≤ length file
  layout_within settled =
      let n = length t.records in
      let last_one = o.valid.0.within n (omega arith) in
      let is = cond-false (nat_lt n n) (end_of_record (nth placed n)) (last_end placed t.chosen.header.kind)
      (le-ltb n n (omega arith)) in
      let ends = end_by t.chosen.header.kind settled in
      let book = ap (λ (x : Book). book_end k x) o.same_book in
      omega (arith, opens_long CLASSES SIZE_MAX t file m b o, last_one, is, ends, book)

-- Where opening would have returned by now though no changing call was made, the file ends with its layout,
-- and that turn is the one in which the call began.
pub record EndsWithLayout (t : choice.SlotTable) (b : Book) (old : State) : Type 0 where
  pub same_turn : turn_opened t b old ≡ old.turn
  pub same_length : length old.file ≡ found_base t + book_end t.chosen.block.k b

pub ends_with_layout : (t : choice.SlotTable) (m : Map) (b : Book) (old : State)
    → OpensBy CLASSES SIZE_MAX t old.file m b → t.chosen.header.kind ≡ kind.Settled → old.turn < last
    → turn_opened t b old ≤ old.turn → EndsWithLayout t b old
ends_with_layout t m b old o settled below low =
    let far = found_base t + book_end t.chosen.block.k b in
    elim (cases_lt far (length old.file)) as (λ _. EndsWithLayout t b old) [
      | inl longer ↦ absurd (omega (
        arith,
        below,
        low,
        cond-true (nat_lt far (length old.file)) (counted old.turn 2)
            old.turn (lt-ltb far (length old.file) longer),
      ))
      | inr not ↦ record {
        same_turn = cond-false (nat_lt far (length old.file)) (counted old.turn 2) old.turn
            (le-ltb far (length old.file) not);
        same_length = omega (arith, not, layout_within t old.file m b o settled);
      }
    ]

-- the images of a settled file that was only looked at
pub settled_still : (t : choice.SlotTable) (m : Map) (b : Book) (old : State)
    (o : OpensBy CLASSES SIZE_MAX t old.file m b) → IsLawful old → {z : State}
    → z.turn ≡ old.turn → (RestsOnFound t old → Leaves old z old.may_leave) → RestsOnFound t old
    → z.turn < last → t.chosen.header.kind ≡ kind.Settled → turn_opened t b old ≤ z.turn
    → LeftOnly z (turn_opened t b old) (λ image. length image ≡ found_base t + book_end t.chosen.block.k b)
settled_still t m b old o lawful same left rests below settled opened image since =
    let ends = ends_with_layout t m b old o settled (omega (arith, same, below)) (omega (arith, same, opened))
    in
    let long = λ (may : old.may_leave image). (rests image may).same_length ∙ ends.same_length in
    elim ((left rests).each (turn_opened t b old) image (omega (arith, ends.same_turn)) since)
    as (λ _. length image ≡ found_base t + book_end t.chosen.block.k b) [
      | inl was ↦ long (lawful.only_now image (omega (arith, same, below))
          (subst (λ (k : ℕ). old.left_since k image) ends.same_turn was))
      | inr may ↦ long may
    ]
