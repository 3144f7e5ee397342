-- A table that is laid out anew is valid where its layout ends, and has the book of its moving table.
use Rattle.std.specs.Prelude.{◌≡◌, ℕ, ◌+◌, ◌<◌, ◌≤◌, ◌^◌, nat_lt, Bool, List, [], ◌∷◌, true, false, not, ◌&&◌, cond, length, map, take, filter, slice_index_or, suc, refl, None}
use Rattle.std.specs.FinSet as set
use Rattle.std.proofs.Common.{arith, sym, ◌∙◌, ap, inl, inr}
use Rattle.std.proofs.lemmas.Bool.{cases_lt, cases_Bool, cond-true, cond-false, and_from, lt-ltb, ltb-true}
use Rattle.std.proofs.lemmas.List.{ext_get_or}
use Rattle.size_class.specs.Classes.{width, class_of, zero_row}
use Rattle.size_class.proofs.ClassLaws.{class_below}
use Rattle.slot_codec.specs.declared.codec.Record.{Record}
use Rattle.segment_layout.specs.Shapes.{buffer_start, end_of, settled_caps, settled_grid, start_of, taken_in}
use Rattle.segment_layout.proofs.ShapeLaws.{caps-settled_above, caps-settled_below, end_of-split, length-settled_caps, length-settled_grid, row-settled_above, row-settled_below, start_of-le}
use Rattle.segment_layout.specs.Books.{volumes_of_sizes}
use Rattle.segment_layout.proofs.BookLaws.{length-volumes_of_sizes}
use Rattle.table_rules.specs.Suffixes.{suffix_at}
use Rattle.table_rules.specs.Tables.{HasFullRows, TableInLayout, book_of, end_of_record, is_buffered, is_lower, lies_in_payload, no_record, nth, sizes}
use Rattle.table_rules.specs.Rules.{IsValid, KeepsPlaces}
use Rattle.placement_model.proofs.BookLaws.{settled_caps-again, settled_grid-again}
use Rattle.placement_model.specs.Laid.{new_caps, settled_at, AreLaid}
use Rattle.placement_model.proofs.SegmentLaws.{lies_parts}
use Rattle.placement_model.proofs.SettledLaws as places

-- two tests that agree at each record choose the same
same_filter : (p q : Record → Bool) (rs : List Record)
    → ((i : ℕ) → i < length rs → p (slice_index_or rs i no_record) ≡ q (slice_index_or rs i no_record))
    → filter p rs ≡ filter q rs
same_filter p q [] each = refl
same_filter p q (r ∷ rs) each = λ i.
    cond (each 0 (omega arith) i) (r ∷ same_filter p q rs (λ j h. each (suc j) (omega (arith, h))) i)
    (same_filter p q rs (λ j h. each (suc j) (omega (arith, h))) i)

module _ (b : ℕ) (t : TableInLayout) (h : HasFullRows t) (fits : b ≤ t.classes)
    (top : t.size_max < 2 ^ t.classes) (keeps : KeepsPlaces (suffix_at b t)) (laid : AreLaid b t) where
  abbrev volumes : List ℕ
  volumes = volumes_of_sizes (sizes t.records)

  abbrev old : TableInLayout
  old = suffix_at b t

  abbrev new : TableInLayout
  new = settled_at b t

  within_width : b ≤ width
  within_width = places.within_width b t h fits top keeps

  whole : length (new_caps b t) ≡ width
  whole = places.full b t h fits top keeps

  -- each object ends where the layout does, or before
  ends : (i : ℕ) → i < length t.records → end_of_record (nth t i) ≤ end_of t.k (new_caps b t)
  ends i within =
      let r = nth t i in
      elim (cases_lt 0 r.size) [
        | inr none ↦ omega (arith, none, keeps.empty i within (omega (arith, none)))
        | inl some ↦
            let low = places.of_class b t h fits top keeps i within some in
            elim (places.stands_new b t h fits top keeps laid i within
            (and_from (nat_lt 0 r.size) (nat_lt (class_of r.size) t.classes)
            (lt-ltb 0 r.size some) (lt-ltb (class_of r.size) t.classes low))) [
              | inl here ↦
                  let c = class_of r.size in
                  omega (
                    arith,
                    (lies_parts (start_of t.k (new_caps b t) c)
                        (buffer_start t.k (new_caps b t) c) r here).1,
                    start_of-le t.k (new_caps b t) c (omega (arith, class_below r.size, whole)),
                  )
              | inr there ↦
                  let j = there.0 in
                  omega (
                    arith,
                    (lies_parts (buffer_start t.k (new_caps b t) j)
                        (buffer_start t.k (new_caps b t) j + taken_in old.header.used j) r there.3).1,
                    places.rows_fit b t h fits top keeps j,
                    start_of-le t.k (new_caps b t) j
                        (omega (arith, there.2, h.classes, whole)),
                  )
            ]
      ]

  within_end : (i : ℕ) → i ≤ length t.records
      → cond (nat_lt i (length t.records)) (end_of_record (nth t i))
      (end_of t.k (take t.classes (new_caps b t))) ≤ end_of t.k (new_caps b t)
  within_end i low =
      elim (cases_Bool (nat_lt i (length t.records))) [
        | inl inside ↦ omega (
          arith,
          cond-true (nat_lt i (length t.records)) (end_of_record (nth t i))
              (end_of t.k (take t.classes (new_caps b t))) inside,
          ends i (ltb-true i (length t.records) inside),
        )
        | inr last ↦ omega (
          arith,
          cond-false (nat_lt i (length t.records)) (end_of_record (nth t i))
              (end_of t.k (take t.classes (new_caps b t))) last,
          end_of-split t.k (new_caps b t) t.classes,
        )
      ]

  -- The settled table is valid where its layout ends.
  pub settled_valid : IsValid new
  settled_valid = (
    record {
      places = places.settled_places b t h fits top keeps laid;
      within = λ i low. within_end i low;
      front = (refl, refl, refl);
    },
    tt,
  )

  -- laying out anew from the last class on changes nothing
  pub caps_whole : settled_caps t.classes (new_caps b t) volumes ≡ new_caps b t
  caps_whole =
      ext_get_or 0 (settled_caps t.classes (new_caps b t) volumes) (new_caps b t)
      (length-settled_caps t.classes (new_caps b t) volumes whole
      (length-volumes_of_sizes (sizes t.records)) h.classes ∙ sym whole)
      (λ c _. elim (cases_lt c t.classes) [
        | inl low ↦ caps-settled_below t.classes c (new_caps b t) volumes whole h.classes low
        | inr high ↦ caps-settled_above t.classes c (new_caps b t) volumes whole h.classes high
            ∙ sym (caps-settled_above b c t.header.caps volumes h.caps_full within_width
            (omega (arith, fits, high)))
      ])

  grid_whole : settled_grid t.classes old.header.used ≡ old.header.used
  grid_whole =
      let long : length old.header.used ≡ width =
      length-settled_grid b t.header.used h.grid_full.full within_width in
      ext_get_or [] (settled_grid t.classes old.header.used) old.header.used
      (length-settled_grid t.classes old.header.used long h.classes ∙ sym long)
      (λ j in_list. elim (cases_lt j t.classes) [
        | inl low ↦ row-settled_below t.classes j old.header.used long h.classes low
        | inr high ↦
            let wide : j < width = omega (
              arith,
              in_list,
              length-settled_grid t.classes old.header.used long h.classes,
            ) in
            row-settled_above t.classes j old.header.used long high wide
            ∙ sym (row-settled_above b j t.header.used h.grid_full.full (omega (arith, fits, high))
            wide)
      ])

  same_buffered : (i : ℕ) → i < length t.records → is_buffered new (nth t i) ≡ is_buffered old (nth t i)
  same_buffered i within =
      let r = nth t i in
      elim (cases_Bool (nat_lt 0 r.size)) [
        | inr none ↦ ap (λ k. (k && nat_lt (class_of r.size) t.classes)
            && not (lies_in_payload new (class_of r.size) r)) none
            ∙ sym (ap (λ k. (k && nat_lt (class_of r.size) b)
            && not (lies_in_payload old (class_of r.size) r)) none)
        | inl some ↦
            let low = places.of_class b t h fits top keeps i within (ltb-true 0 r.size some) in
            let of_new : is_lower new r ≡ true =
            and_from (nat_lt 0 r.size) (nat_lt (class_of r.size) t.classes) some
            (lt-ltb (class_of r.size) t.classes low) in
            elim (cases_Bool (nat_lt (class_of r.size) b)) [
              | inl below ↦
                  let of_old : is_lower old r ≡ true =
                  and_from (nat_lt 0 r.size) (nat_lt (class_of r.size) b) some below in
                  λ j. (of_new ∙ sym of_old) j && not (places.same_in_payload b t h fits top keeps
                  (class_of r.size) r
                  (ltb-true (class_of r.size) b below) j)
              | inr above ↦
                  let high : b ≤ class_of r.size = elim (cases_lt (class_of r.size) b) [
                    | inl less ↦ absurd
                        (let yes : nat_lt (class_of r.size) b ≡ true = lt-ltb (class_of r.size) b less in cc)
                    | inr more ↦ more
                  ] in
                  let none_old : is_lower old r ≡ false = ap (λ k. k && nat_lt (class_of r.size) b) some
                  ∙ above in
                  (λ j. of_new j && not (laid i within (ltb-true 0 r.size some) high j))
                  ∙ sym (ap (λ k. k && not (lies_in_payload old (class_of r.size) r)) none_old)
            ]
      ]

  -- Its book is that of the moving table.
  pub settled_book : book_of new ≡ book_of old
  settled_book =
      let buffered = same_filter (is_buffered new) (is_buffered old) t.records same_buffered in
      let caps : settled_caps t.classes (new_caps b t) volumes
      ≡ settled_caps b old.header.caps volumes = caps_whole
      ∙ sym (settled_caps-again b t.header.caps zero_row volumes
      (omega (arith, within_width, h.caps_full))) in
      let grid : settled_grid t.classes old.header.used ≡ settled_grid b old.header.used = grid_whole
      ∙ sym (settled_grid-again b t.header.used (omega (arith, within_width, h.grid_full.full))) in
      λ i. record {
        caps = caps i;
        grid = grid i;
        buffered = set.from_list (map (λ (r : Record). r.name) (buffered i));
        digests = None;
      }
