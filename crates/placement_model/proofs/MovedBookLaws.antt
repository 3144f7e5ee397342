-- The book of a moving table stays when an object of its suffix stands elsewhere.
use Rattle.std.specs.Prelude.{◌≡◌, ℕ, ◌≤◌, nat_lt, Bool, true, false, not, ◌&&◌, List, sum_by, Some, IsSome, refl, None}
use Rattle.std.proofs.Common.{arith, sym, ◌∙◌, ap, subst, inl, inr}
use Rattle.std.proofs.lemmas.Bool.{cases_Bool, cond-true, cond-false, le-ltb}
use Rattle.std.proofs.lemmas.Grind.{same_number_lists}
use Rattle.std.specs.FinMap as fin
use Rattle.std.specs.FinSet as set
use Rattle.size_class.specs.Classes.{class_of}
use Rattle.slot_codec.specs.Names.{IsName}
use Rattle.slot_codec.specs.declared.codec.Header.{Header}
use Rattle.slot_codec.specs.declared.codec.Record.{Record}
use Rattle.map_model.proofs.MapLaws.{name_order, names_differ, same_name-is, sum_by-map}
use Rattle.map_model.specs.Weights.{same_name, weight}
use Rattle.segment_layout.specs.Shapes.{settled_caps, settled_grid}
use Rattle.segment_layout.specs.Books.{volumes_of_sizes}
use Rattle.segment_layout.proofs.BalanceLaws.{bytes_in}
use Rattle.segment_layout.proofs.BookLaws.{length-volumes_of_sizes, volumes_of_sizes-index}
use Rattle.table_rules.specs.Tables.{TableInLayout, book_of, table_boundary, lies_in_payload, sizes, is_buffered}
use Rattle.extent_table.specs.declared.spot.Spot.{Spot}
use Rattle.extent_table.specs.Extents.{Spots, record_of, records_of}
use Rattle.placement_model.proofs.BufferedLaws.{contains-chosen}
use Rattle.placement_model.specs.Buffered.{chosen_names, passes}
use Rattle.placement_model.specs.Laid.{laid}
use Rattle.placement_model.specs.Reads.{AreNamed}
use Rattle.placement_model.proofs.ReadLaws.{AreNamed-insert}
use Rattle.placement_model.proofs.SpotSumLaws.{records_sum-insert}

module _ (classes size_max k len : ℕ) (header : Header) (spots : Spots) (named : AreNamed spots)
    (name : List ℕ) (s t : Spot) (there : fin.get spots name ≡ Some s) (same_size : t.size ≡ s.size) where
  abbrev before : TableInLayout
  before = laid classes size_max k len header spots

  is_a_name : IsName name
  is_a_name = named name (subst (λ o. IsSome o) (sym there) refl)

  -- the sizes add up as before
  same_volumes : volumes_of_sizes (sizes (records_of (fin.insert spots name t)))
      ≡ volumes_of_sizes (sizes (records_of spots))
  same_volumes =
      same_number_lists (volumes_of_sizes (sizes (records_of (fin.insert spots name t))))
      (volumes_of_sizes (sizes (records_of spots)))
      (length-volumes_of_sizes (sizes (records_of (fin.insert spots name t)))
      ∙ sym (length-volumes_of_sizes (sizes (records_of spots)))) (λ c low.
      volumes_of_sizes-index (sizes (records_of (fin.insert spots name t))) c
      ∙ sum_by-map (λ size. bytes_in c size) (λ (r : Record). r.size) (records_of (fin.insert spots name t))
      ∙ same c
      ∙ sym (sum_by-map (λ size. bytes_in c size) (λ (r : Record). r.size) (records_of spots))
      ∙ sym (volumes_of_sizes-index (sizes (records_of spots)) c))
    where
      same : (c : ℕ) → sum_by (λ (r : Record). bytes_in c r.size) (records_of (fin.insert spots name t))
          ≡ sum_by (λ (r : Record). bytes_in c r.size) (records_of spots)
      same c =
          let f = λ (r : Record). bytes_in c r.size in
          omega (
            arith,
            records_sum-insert f spots name t named is_a_name,
            ap (weight (λ (e : List ℕ × Spot). f (record_of e)) name) there,
            ap (bytes_in c) same_size,
          )

  -- the object is in no buffer, before or after
  same_buffered : table_boundary before ≤ class_of s.size
      → chosen_names (is_buffered before) (fin.insert spots name t) ≡ chosen_names (is_buffered before) spots
  same_buffered high =
      set.same_set name_order names_differ (chosen_names (is_buffered before) (fin.insert spots name t))
      (chosen_names (is_buffered before) spots) (λ q.
      contains-chosen (is_buffered before) (fin.insert spots name t)
      (AreNamed-insert spots name t named is_a_name) q ∙ each q
      ∙ sym (contains-chosen (is_buffered before) spots named q))
    where
      none : (q : List ℕ) (x : Spot) → x.size ≡ s.size → is_buffered before (record_of (q, x)) ≡ false
      none q x e =
          let past : nat_lt (class_of x.size) (table_boundary before)
          ≡ false = le-ltb (class_of x.size) (table_boundary before) (omega (arith, high, ap class_of e))
          in
          ap (λ v. (nat_lt 0 x.size && v) && not (lies_in_payload before (class_of x.size)
          (record_of (q, x)))) past ∙ shut (nat_lt 0 x.size)
          (not (lies_in_payload before (class_of x.size) (record_of (q, x))))
        where
          shut : (a b : Bool) → ((a && false) && b) ≡ false
          shut true b = refl
          shut false b = refl

      each : (q : List ℕ) → passes (is_buffered before) q (fin.get (fin.insert spots name t) q)
          ≡ passes (is_buffered before) q (fin.get spots q)
      each q = elim (cases_Bool (same_name q name)) [
        | inl same ↦
            ap (passes (is_buffered before) q)
            (fin.get-insert name_order spots name t q
            ∙ cond-true (same_name q name) (Some t) (fin.get spots q) same)
            ∙ none q t same_size
            ∙ sym (none q s refl)
            ∙ ap (passes (is_buffered before) q)
            (sym there ∙ ap (fin.get spots) (sym (same_name-is q name same)))
        | inr other ↦ ap (passes (is_buffered before) q)
            (fin.get-insert name_order spots name t q
            ∙ cond-false (same_name q name) (Some t) (fin.get spots q) other)
      ]

  pub moved_book : table_boundary before ≤ class_of s.size
      → book_of (laid classes size_max k len header (fin.insert spots name t)) ≡ book_of before
  moved_book high = λ i. record {
    caps = settled_caps (table_boundary before) header.caps (same_volumes i);
    grid = settled_grid (table_boundary before) header.used;
    buffered = same_buffered high i;
    digests = None;
  }
