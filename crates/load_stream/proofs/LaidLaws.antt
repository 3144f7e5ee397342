-- A table whose objects were put one behind another, until each segment was filled, is a valid settled one
-- with nothing in buffers.
use Rattle.std.specs.Prelude.{◌≡◌, ℕ, ◌+◌, ◌<◌, ◌≤◌, ◌^◌, nat_le, nat_lt, Bool, true, false, not, ◌&&◌, cond, List, [], ◌∷◌, filter, length, map, slice_index, None, IsTrue, refl}
use Rattle.std.proofs.Common.{arith, sym, ap, ◌∙◌, subst, inl, inr}
use Rattle.std.proofs.lemmas.Bool.{and_from, and_parts, cases_Bool, le-leb, ltb-true}
use Rattle.std.specs.FinMap as fin
use Rattle.std.specs.FinSet as set
use Rattle.size_class.specs.Classes.{IsRow, class_of, width, zero_grid}
use Rattle.size_class.proofs.ClassLaws.{IsGrid-zero, length-zero_grid, zero_row-index}
use Rattle.slot_codec.specs.Names.{name_cmp}
use Rattle.slot_codec.specs.declared.codec.Record.{Record}
use Rattle.map_model.specs.Weights.{Entry}
use Rattle.segment_layout.specs.Books.{volumes_of_sizes}
use Rattle.segment_layout.specs.Shapes.{buffer_start, end_of, settled_grid, start_of}
use Rattle.segment_layout.proofs.ShapeLaws.{cell-settled_above}
use Rattle.table_rules.specs.Suffixes.{suffix_at}
use Rattle.table_rules.specs.Tables.{Apart, HasFullRows, TableInLayout, book_of, end_of_record, is_buffered, is_lower, lies_in_payload, nth, sizes}
use Rattle.table_rules.specs.Rules.{IsValid, KeepsPlaces}
use Rattle.extent_table.specs.declared.spot.Spot.{Spot}
use Rattle.extent_table.specs.Extents.{Spots, record_of}
use Rattle.extent_table.proofs.ExtentLaws.{records_of-all}
use Rattle.placement_model.specs.Laid.{AreLaid, laid, new_caps, settled_at, settled_header, settled_table}
use Rattle.placement_model.specs.LaidOut.{IsLaidOut}
use Rattle.placement_model.proofs.EnterLaws.{names_of_places, spot_is}
use Rattle.placement_model.proofs.ReadLaws.{spot_of_record}
use Rattle.placement_model.proofs.SettledBookLaws.{settled_book, settled_valid}
use Rattle.dump_stream.specs.Loading.{filled_by}
use Rattle.dump_stream.specs.Placing.{IsPlacing}

-- nothing passes a test that none passes
none_pass : (p : Record → Bool) (rs : List Record) → ((r : Record) → p r ≡ false) → filter p rs ≡ []
none_pass p [] none = refl
none_pass p (r ∷ rs) none = ap (λ b. cond b (r ∷ filter p rs) (filter p rs)) (none r) ∙ none_pass p rs none

-- nothing is below 0
not_below : (n : ℕ) → nat_lt n 0 ≡ false
not_below n = elim (cases_Bool (nat_lt n 0)) [
  | inl low ↦ absurd (omega (arith, ltb-true n 0 low))
  | inr other ↦ other
]

module _ (classes size_max k : ℕ) (volumes : List ℕ) (es : List Entry) (spots : Spots)
    (h : IsPlacing size_max k volumes es spots) (few : classes ≤ width) (top : size_max < 2 ^ classes)
    (row : IsRow classes volumes) (filled : filled_by es ≡ volumes) where
  -- the table under the header that is saved; its length doesn't matter yet
  abbrev t : TableInLayout
  t = laid classes size_max k 0 (settled_header volumes zero_grid) spots

  same_sizes : sizes t.records ≡ map (λ (e : Entry). length e.1) es
  same_sizes = ap (map (λ (r : Record). r.size)) (records_of-all spots h.named)
      ∙ over (fin.entries spots) ∙ h.sizes
    where
      over : (xs : List (List ℕ × Spot)) → map (λ (r : Record). r.size) (map record_of xs)
          ≡ map (λ (x : List ℕ × Spot). x.1.size) xs
      over [] = refl
      over (x ∷ xs) = ap (λ (rest : List ℕ). x.1.size ∷ rest) (over xs)

  same_caps : new_caps 0 t ≡ volumes
  same_caps = ap volumes_of_sizes same_sizes ∙ filled

  rows_full : HasFullRows t
  rows_full = record { caps_full = row.full; grid_full = IsGrid-zero width; classes = few }

  not_lower : (r : Record) → IsTrue (is_lower (suffix_at 0 t) r) → ⊥
  not_lower r is = let q = and_parts (nat_lt 0 r.size) (nat_lt (class_of r.size) 0) is in
      omega (arith, ltb-true (class_of r.size) 0 q.1)

  keeps : KeepsPlaces (suffix_at 0 t)
  keeps = record {
    sizes = λ i within. let s = spot_of_record spots h.named i within in
        omega (arith, h.small (nth t i).name s.spot s.is, s.same_size);
    empty = λ i within none. let s = spot_of_record spots h.named i within in
        omega (arith, h.empty (nth t i).name s.spot s.is (omega (arith, none, s.same_size)), s.same_place);
    above = λ c wide. (
      λ high. zero_row-index c,
      λ d in_width out. cell-settled_above 0 c d zero_grid length-zero_grid (omega arith) (omega arith),
    );
    rows = λ c low. absurd (omega (arith, low));
    stands = λ i within lower. absurd (not_lower (nth t i) lower);
    apart = λ i within p less.
        let r = spot_of_record spots h.named p (omega (arith, within, less)) in
        let s = spot_of_record spots h.named i within in
        subst (λ (x : Record). Apart x (nth t i)) (sym (spot_is spots (nth t p) r))
        (subst (λ (x : Record). Apart (record_of ((nth t p).name, r.spot)) x)
        (sym (spot_is spots (nth t i) s))
        (h.apart (nth t p).name (nth t i).name r.spot s.spot r.is s.is
        (names_of_places spots p i less within)));
    balance = λ c low. absurd (omega (arith, low));
    full = λ c low. absurd (omega (arith, low));
  }

  are_laid : AreLaid 0 t
  are_laid i within some high =
      let s = spot_of_record spots h.named i within in
      let r = nth t i in
      let c = class_of r.size in
      let same : class_of s.spot.size ≡ c = ap class_of (sym s.same_size) in
      let w = h.within r.name s.spot s.is (omega (arith, some, s.same_size)) in
      let low : start_of k (new_caps 0 t) c ≤ r.place = omega (
        arith,
        w.0,
        s.same_place,
        ap (start_of k volumes) same,
        ap (λ v. start_of k v c) same_caps,
      ) in
      let end : end_of_record r ≤ buffer_start k (new_caps 0 t) c = omega (
        arith,
        w.1,
        s.same_place,
        s.same_size,
        ap (λ x. start_of k volumes x + slice_index (filled_by es) x) same,
        ap (λ v. slice_index v c) filled,
        ap (λ v. buffer_start k v c) same_caps,
      ) in
      and_from (nat_le (start_of k (new_caps 0 t) c) r.place) (nat_le (end_of_record r)
      (buffer_start k (new_caps 0 t) c)) (le-leb (start_of k (new_caps 0 t) c) r.place low)
      (le-leb (end_of_record r) (buffer_start k (new_caps 0 t) c) end)

  same_grid : settled_grid 0 t.header.used ≡ zero_grid
  unfolding zero_grid
  same_grid = refl

  valid_new : IsValid (settled_at 0 t)
  valid_new = settled_valid 0 t rows_full (omega arith) top keeps are_laid

  -- the settled table is valid
  pub laid_valid : IsValid (settled_table classes size_max k volumes zero_grid spots)
  laid_valid = subst (λ (x : List ℕ × List (List ℕ)). IsValid (laid classes size_max k (end_of k x.0)
      (settled_header x.0 x.1) spots)) (λ i. (same_caps i, same_grid i)) valid_new

  pub laid_out : IsLaidOut classes size_max k volumes zero_grid spots
  laid_out = record {
    few = few;
    top = top;
    caps_full = row;
    grid_full = IsGrid-zero classes;
    named = h.named;
    valid = laid_valid;
  }

  -- its book has the volumes, an empty grid, and no buffered name
  pub laid_book_is : book_of (settled_table classes size_max k volumes zero_grid spots)
      ≡ record { caps = volumes; grid = zero_grid; buffered = set.empty; digests = None }
  laid_book_is =
      subst (λ (x : List ℕ × List (List ℕ)). book_of (laid classes size_max k (end_of k x.0)
      (settled_header x.0 x.1) spots) ≡ book_of (suffix_at 0 t)) (λ i. (same_caps i, same_grid i))
      (settled_book 0 t rows_full (omega arith) top keeps are_laid)
      ∙ (λ i. record {
        caps = same_caps i;
        grid = same_grid i;
        buffered = set.from_list (map (λ (r : Record). r.name)
            (none_pass (is_buffered (suffix_at 0 t)) t.records none i));
        digests = None;
      }) ∙ (λ i. record { caps = volumes; grid = zero_grid; buffered = no_names i; digests = None })
    where
      nothing : (a b : Bool) → ((a && false) && b) ≡ false
      nothing true b = refl
      nothing false b = refl

      none : (r : Record) → is_buffered (suffix_at 0 t) r ≡ false
      none r = ap (λ b. (nat_lt 0 r.size && b) && not (lies_in_payload (suffix_at 0 t) (class_of r.size) r))
          (not_below (class_of r.size))
          ∙ nothing (nat_lt 0 r.size) (not (lies_in_payload (suffix_at 0 t) (class_of r.size) r))

      no_names : set.from_list {R = name_cmp} [] ≡ set.empty
      no_names = refl
