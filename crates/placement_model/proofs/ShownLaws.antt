-- The book of a settled table is the one that shows its capacities and its grid as they are.
use Rattle.std.specs.Prelude.{◌≡◌, ℕ, ◌<◌, ◌≤◌, List, [], length, slice_index, refl, None}
use Rattle.std.proofs.Common.{arith, sym, ◌∙◌, ap, inl, inr}
use Rattle.std.proofs.lemmas.Bool.{cases_lt}
use Rattle.std.proofs.lemmas.List.{ext_get_or}
use Rattle.size_class.specs.Classes.{width}
use Rattle.slot_codec.specs.declared.codec.Record.{Record}
use Rattle.map_model.proofs.MapLaws.{sum_by-map}
use Rattle.segment_layout.specs.Shapes.{settled_caps, settled_grid}
use Rattle.segment_layout.specs.Books.{volumes_of_sizes}
use Rattle.segment_layout.proofs.BalanceLaws.{bytes_in, bytes_in-none, bytes_in-other}
use Rattle.segment_layout.proofs.BookLaws.{length-volumes_of_sizes, sum_by_none, volumes_of_sizes-index}
use Rattle.segment_layout.proofs.SettleLaws.{row_is_zero}
use Rattle.segment_layout.proofs.ShapeLaws.{caps-settled_above, caps-settled_below, length-settled_caps, length-settled_grid, row-settled_above, row-settled_below}
use Rattle.segment_layout.proofs.SumLaws.{sum_by_same_places}
use Rattle.table_rules.specs.Tables.{TableInLayout, no_record, nth, sizes}
use Rattle.extent_table.specs.Extents.{Spots, records_of}
use Rattle.placement_model.specs.Laid.{book_at, settled_table}
use Rattle.placement_model.specs.LaidOut.{IsLaidOut, shown_book}
use Rattle.placement_model.proofs.LaidOutLaws.{class_in_use, laid_below}

module _ (classes size_max k : ℕ) (caps : List ℕ) (grid : List (List ℕ)) (spots : Spots)
    (h : IsLaidOut classes size_max k caps grid spots) where
  abbrev table : TableInLayout
  table = settled_table classes size_max k caps grid spots

  abbrev volumes : List ℕ
  volumes = volumes_of_sizes (sizes (records_of spots))

  -- no object is of a class past those in use
  none_past : (c : ℕ) → classes ≤ c → slice_index volumes c ≡ 0
  none_past c past =
      volumes_of_sizes-index (sizes (records_of spots)) c
      ∙ sum_by-map (λ size. bytes_in c size) (λ (r : Record). r.size) (records_of spots)
      ∙ sum_by_same_places no_record (λ r. bytes_in c r.size) (λ r. 0) (records_of spots) each
      ∙ sum_by_none (λ (r : Record). 0) (records_of spots) (λ r. refl)
    where
      each : (i : ℕ) → i < length (records_of spots) → bytes_in c (nth table i).size ≡ 0
      each i within =
          let size = (nth table i).size in
          elim (cases_lt 0 size) [
            | inr none ↦ let e : size ≡ 0 = omega (arith, none) in ap (bytes_in c) e ∙ bytes_in-none c
            | inl some ↦
                let low = class_in_use classes size_max k caps grid spots h.top size (omega (arith, some))
                ((laid_below classes size_max k caps grid spots h).sizes i within) in
                bytes_in-other c size (λ e. absurd (omega (arith, low, past, e)))
          ]

  caps_stay : settled_caps classes caps volumes ≡ caps
  caps_stay =
      let long = h.caps_full.full in
      let vols = length-volumes_of_sizes (sizes (records_of spots)) in
      ext_get_or 0 (settled_caps classes caps volumes) caps
      (length-settled_caps classes caps volumes long vols h.few ∙ sym long)
      (λ c _. elim (cases_lt c classes) [
        | inl low ↦ caps-settled_below classes c caps volumes long h.few low
        | inr high ↦ caps-settled_above classes c caps volumes long h.few high ∙ none_past c high
            ∙ sym (h.caps_full.zero_above c high)
      ])

  grid_stays : settled_grid classes grid ≡ grid
  grid_stays =
      let long = h.grid_full.full in
      ext_get_or [] (settled_grid classes grid) grid
      (length-settled_grid classes grid long h.few ∙ sym long)
      (λ j in_list. elim (cases_lt j classes) [
        | inl low ↦ row-settled_below classes j grid long h.few low
        | inr high ↦
            let wide : j < width = omega (arith, in_list, length-settled_grid classes grid long h.few) in
            row-settled_above classes j grid long high wide
            ∙ sym (row_is_zero _ (h.grid_full.rows j wide).full (λ c. h.grid_full.zero_above j c high))
      ])

  pub book_shown : book_at classes size_max k caps grid spots ≡ shown_book classes size_max k caps grid spots
  book_shown = λ i. record {
    caps = caps_stay i;
    grid = grid_stays i;
    buffered = (shown_book classes size_max k caps grid spots).buffered;
    digests = None;
  }
