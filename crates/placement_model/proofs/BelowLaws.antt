-- What a layout keeps of the classes below a boundary through the change before a flush: a name goes, and its
-- new object joins.
use Rattle.std.specs.Prelude.{◌≡◌, ◌⊎◌, ℕ, ◌+◌, ◌<◌, ◌≤◌, IsTrue, true, false, List, [], ◌∷◌, Option, Some, None, refl}
use Rattle.std.proofs.Common.{arith, sym, ◌∙◌, ap, subst, inl, inr}
use Rattle.std.proofs.lemmas.Bool.{cases_Bool, cases_lt}
use Rattle.std.specs.FinMap as fin
use Rattle.size_class.specs.Classes.{IsGrid, class_of, width}
use Rattle.size_class.proofs.ClassLaws.{class_below}
use Rattle.slot_codec.specs.Names.{IsName}
use Rattle.slot_codec.specs.declared.codec.Record.{Record}
use Rattle.segment_layout.specs.Books.{charge_all, is_quiet, some_size}
use Rattle.segment_layout.specs.Shapes.{buffer_for, buffer_of, buffer_start, taken_in, with_entry}
use Rattle.segment_layout.proofs.ChargeLaws.{room_of_buffer}
use Rattle.segment_layout.proofs.BalanceLaws.{filled_by_charge}
use Rattle.segment_layout.proofs.ShapeLaws.{IsGrid-with_entry, buffer_of-zero, taken-with_entry_same}
use Rattle.table_rules.specs.Suffixes.{Stands}
use Rattle.table_rules.specs.Tables.{TableInLayout, lies_in_buffer, lies_in_payload, nth}
use Rattle.table_rules.proofs.SuffixLaws.{below_of_places}
use Rattle.extent_table.specs.declared.spot.Spot.{Spot}
use Rattle.extent_table.specs.Extents.{Spots, record_of}
use Rattle.placement_model.specs.Changes.{charged_spot}
use Rattle.placement_model.specs.Joins.{empty_spot}
use Rattle.placement_model.specs.Laid.{settled_header, settled_table}
use Rattle.placement_model.specs.LaidOut.{IsLaidOut}
use Rattle.placement_model.specs.Quiet.{PlacedTo, QuietTo, gone_items, is_in_payload}
use Rattle.placement_model.proofs.ChangeLaws.{in_grid, in_row, room, wider, within_from}
use Rattle.placement_model.proofs.EnterLaws.{each_inserted, entered_below}
use Rattle.placement_model.proofs.GoneLaws.{each_removed, gone_buffered, gone_payload}
use Rattle.placement_model.proofs.JoinLaws.{empty_below}
use Rattle.placement_model.proofs.LaidOutLaws.{full_rows, laid_filled, laid_places, laid_stand, place_of_lying}
use Rattle.placement_model.proofs.QuietLaws.{found_one, gone_elsewhere, gone_here, in_payload_from, in_payload_is, some_size-some}
use Rattle.placement_model.proofs.ReadLaws.{AreNamed-insert, AreNamed-remove}
use Rattle.map_model.proofs.MapLaws.{remove-absent}
use Rattle.placement_model.specs.Below.{IsLaidBelow}
use Rattle.placement_model.specs.Tried.{between, gone_charged, size_at}
use Rattle.placement_model.proofs.TriedLaws.{gone_tried, loud_grid}
use Rattle.placement_model.proofs.GoneAboveLaws.{gone_above}

module _ (classes size_max k : ℕ) (caps : List ℕ) (b : ℕ) where
  -- a settled layout keeps the rules of all classes
  pub laid_is_below : (grid : List (List ℕ)) (spots : Spots) → IsLaidOut classes size_max k caps grid spots
      → b ≤ classes → IsLaidBelow classes size_max k caps grid b spots
  laid_is_below grid spots h low = record {
    few = h.few;
    top = h.top;
    caps_full = h.caps_full;
    grid_full = h.grid_full;
    filled = laid_filled classes size_max k caps grid spots h;
    named = h.named;
    below = below_of_places b (settled_table classes size_max k caps grid spots)
        (full_rows classes size_max k caps grid spots h) (laid_places classes size_max k caps grid spots h)
        h.few
        low;
    stand = laid_stand classes size_max k caps grid spots h;
  }

  module _ (grid : List (List ℕ)) (spots : Spots) (h : IsLaidBelow classes size_max k caps grid b spots) where
    abbrev table : TableInLayout
    table = settled_table classes size_max k caps grid spots

    -- ---- a buffer that has room for a byte is of a class in use

    buffer_in_use : (size j : ℕ) → 1 ≤ size → buffer_for k caps grid (class_of size) size ≡ Some j
        → j < classes
    buffer_in_use size j some found =
        let room = room_of_buffer k caps grid (class_of size) size (class_below size) j found in
        elim (cases_lt j classes) [
          | inl low ↦ low
          | inr high ↦ absurd (omega (
            arith,
            room.room,
            some,
            buffer_of-zero k,
            ap (buffer_of k) (h.caps_full.zero_above j high),
          ))
        ]

    grid_after : (size j : ℕ) → 1 ≤ size → buffer_for k caps grid (class_of size) size ≡ Some j
        → IsGrid classes (with_entry grid j (class_of size) size)
    grid_after size j some found =
        let low = buffer_in_use size j some found in
        let room = room_of_buffer k caps grid (class_of size) size (class_below size) j found in
        IsGrid-with_entry classes j (class_of size) size grid h.grid_full low
        (omega (arith, low, room.from_class)) h.few

    -- what stands does so once more bytes are charged
    stands_after : (size j : ℕ) → 1 ≤ size → buffer_for k caps grid (class_of size) size ≡ Some j
        → (r : Record)
        → Stands table r
        → Stands (settled_table classes size_max k caps (with_entry grid j (class_of size) size) spots) r
    stands_after size j some found r (inl here) = inl here
    stands_after size j some found r (inr (i, low, wide, here)) =
        inr (i, low, wide, wider b table h.filled size j some found i r here)

    module _ (name : List ℕ) where
      -- ---- a name goes

      -- its object stood outside its payload segment, or was empty
      gone_free : (s : Spot) → fin.get spots name ≡ Some s → (is_in_payload k caps s ≡ false) ⊎ (s.size ≡ 0)
          → IsLaidBelow classes size_max k caps grid b (fin.remove spots name)
      gone_free s there out = record {
        few = h.few;
        top = h.top;
        caps_full = h.caps_full;
        grid_full = h.grid_full;
        filled = h.filled;
        named = AreNamed-remove spots name h.named;
        below = gone_buffered classes size_max k _ (settled_header caps grid) b spots h.named name s there
            (elim (cases_lt 0 s.size) [
              | inr none ↦ inr (omega (arith, none))
              | inl some ↦ elim out [ inr none ↦ inr none | inl elsewhere ↦ inl (not_there some elsewhere) ]
            ]) h.below;
        stand = each_removed (λ (r : Record). 0 < r.size → Stands table r) spots name h.named h.stand;
      }
        where
          not_there : 0 < s.size → is_in_payload k caps s ≡ false
              → lies_in_payload table (class_of s.size) (record_of (name, s)) ≡ false
          not_there some elsewhere =
              elim (cases_Bool (lies_in_payload table (class_of s.size) (record_of (name, s)))) [
                | inr off ↦ off
                | inl here ↦ absurd (let bad : false ≡ true = sym elsewhere
                    ∙ place_of_lying k caps name s some here in cc)
              ]

      -- it was of a class from the boundary on, and found no room
      gone_high : (s : Spot) → fin.get spots name ≡ Some s → b ≤ class_of s.size
          → IsLaidBelow classes size_max k caps grid b (fin.remove spots name)
      gone_high s there high = record {
        few = h.few;
        top = h.top;
        caps_full = h.caps_full;
        grid_full = h.grid_full;
        filled = h.filled;
        named = AreNamed-remove spots name h.named;
        below = gone_above classes size_max k _ (settled_header caps grid) b spots h.named name s there high
            h.below;
        stand = each_removed (λ (r : Record). 0 < r.size → Stands table r) spots name h.named h.stand;
      }

      -- it stood in its payload segment, and is charged
      gone_found : (s : Spot) → fin.get spots name ≡ Some s → 1 ≤ s.size → (j : ℕ)
          → buffer_for k caps grid (class_of s.size) s.size ≡ Some j
          → IsLaidBelow classes size_max k caps (with_entry grid j (class_of s.size) s.size) b
          (fin.remove spots name)
      gone_found s there some j found =
          let after = settled_table classes size_max k caps (with_entry grid j (class_of s.size) s.size)
          spots in
          record {
            few = h.few;
            top = h.top;
            caps_full = h.caps_full;
            grid_full = grid_after s.size j some found;
            filled = filled_by_charge k caps grid s.size j h.filled some found;
            named = AreNamed-remove spots name h.named;
            below = gone_payload classes size_max k _ (settled_header caps grid) b spots h.named name s there
                h.filled some j found h.below;
            stand = each_removed (λ (r : Record). 0 < r.size → Stands after r) spots name h.named
                (λ i within full. stands_after s.size j some found (nth table i) (h.stand i within full));
          }

      -- ---- a new object joins

      -- at the place that it was charged
      new_found : IsName name → fin.get spots name ≡ None → (size j : ℕ) → size ≤ size_max → 1 ≤ size
          → buffer_for k caps grid (class_of size) size ≡ Some j
          → IsLaidBelow classes size_max k caps (with_entry grid j (class_of size) size) b
          (fin.insert spots name (charged_spot k caps grid size j))
      new_found is new size j small some found =
          let s = charged_spot k caps grid size j in
          let grid' = with_entry grid j (class_of size) size in
          let after = settled_table classes size_max k caps grid' (fin.insert spots name s) in
          record {
            few = h.few;
            top = h.top;
            caps_full = h.caps_full;
            grid_full = grid_after size j some found;
            filled = filled_by_charge k caps grid size j h.filled some found;
            named = AreNamed-insert spots name s h.named is;
            below = entered_below classes size_max k _ (settled_header caps grid) b spots h.named h.filled
                name is
                new size j some found small h.below h.stand;
            stand = each_inserted (λ (r : Record). 0 < r.size → Stands after r) spots name s h.named is
                (λ full. inr stands_new)
                (λ i within full. stands_after size j some found (nth table i) (h.stand i within full));
          }
        where
          stands_new : (i : ℕ) × (class_of size ≤ i) × (i < width)
              × IsTrue (lies_in_buffer (settled_table classes size_max k caps
              (with_entry grid j (class_of size) size) spots) i
              (record_of (name, charged_spot k caps grid size j)))
          stands_new =
              let r = room b table h.filled size j some found in (
                j,
                r.from_class,
                r.below_width,
                within_from (buffer_start k caps j)
                    (buffer_start k caps j + taken_in (with_entry grid j (class_of size) size) j)
                    (record_of (name, charged_spot k caps grid size j)) (omega arith)
                    (omega (
                      arith,
                      taken-with_entry_same grid j (class_of size) size
                          (in_grid b table h.filled size j some found)
                          (in_row b table h.filled size j some found),
                    )),
              )

      -- or an empty one
      new_empty : IsName name → fin.get spots name ≡ None
          → IsLaidBelow classes size_max k caps grid b (fin.insert spots name empty_spot)
      new_empty is new = record {
        few = h.few;
        top = h.top;
        caps_full = h.caps_full;
        grid_full = h.grid_full;
        filled = h.filled;
        named = AreNamed-insert spots name empty_spot h.named is;
        below = empty_below classes size_max k _ (settled_header caps grid) b spots h.named name is new
            h.below;
        stand = each_inserted (λ (r : Record). 0 < r.size → Stands table r) spots name empty_spot h.named is
            (λ full. absurd (omega (arith, full))) h.stand;
      }

-- ---- what both charges leave

module _ (classes size_max k : ℕ) (caps : List ℕ) (b : ℕ) (grid : List (List ℕ)) (spots : Spots)
    (h : IsLaidBelow classes size_max k caps grid b spots) (name : List ℕ) where
  -- A name goes. What its object charges was tried; where it found no room, the object's class is b or more.
  pub below_gone : (is_quiet (gone_charged k caps grid (fin.get spots name)) ≡ false
      → b ≤ class_of (size_at (fin.get spots name)))
      → IsLaidBelow classes size_max k caps (between k caps grid (fin.get spots name)) b
      (fin.remove spots name)
  below_gone missed = by (fin.get spots name) refl
      (λ o e. subst (λ x. is_quiet (gone_charged k caps grid x) ≡ false → b ≤ class_of (size_at x)) e missed)
      (λ o e more. subst (λ x. IsLaidBelow classes size_max k caps (between k caps grid x) b
      (fin.remove spots name))
      (sym e) more)
    where
      by : (o : Option Spot) → fin.get spots name ≡ o
          → ((x : Option Spot) → fin.get spots name ≡ x
          → is_quiet (gone_charged k caps grid x) ≡ false → b ≤ class_of (size_at x))
          → ((x : Option Spot) → fin.get spots name ≡ x
          → IsLaidBelow classes size_max k caps (between k caps grid x) b (fin.remove spots name)
          → IsLaidBelow classes size_max k caps (between k caps grid (fin.get spots name)) b
          (fin.remove spots name))
          → IsLaidBelow classes size_max k caps (between k caps grid (fin.get spots name)) b
          (fin.remove spots name)
      by None none high goal = goal None none
          (subst (λ x. IsLaidBelow classes size_max k caps grid b x) (sym (remove-absent spots name none)) h)
      by (Some s) there high goal =
          let items = gone_items k caps (Some s) in
          goal (Some s) there (elim (cases_lt 0 s.size)
          as (λ _. IsLaidBelow classes size_max k caps (between k caps grid (Some s)) b
          (fin.remove spots name)) [
            | inr none ↦
                let empty : s.size ≡ 0 = omega (arith, none) in
                stays (gone_elsewhere k caps s (inl empty))
                (gone_free classes size_max k caps b grid spots h name s there (inr empty))
            | inl some ↦ elim (cases_Bool (is_in_payload k caps s))
                as (λ _. IsLaidBelow classes size_max k caps (between k caps grid (Some s)) b
                (fin.remove spots name)) [
                  | inr off ↦ stays (gone_elsewhere k caps s
                      (inr (λ here. absurd (let bad : false ≡ true = sym off
                      ∙ in_payload_is k caps s here in cc))))
                      (gone_free classes size_max k caps b grid spots h name s there (inl off))
                  | inl here ↦ tried (gone_here k caps s (omega (arith, some))
                      (in_payload_from k caps s here))
                      (omega (arith, some))
                ]
          ])
        where
          -- it charges nothing
          stays : gone_items k caps (Some s) ≡ []
              → IsLaidBelow classes size_max k caps grid b (fin.remove spots name)
              → IsLaidBelow classes size_max k caps (between k caps grid (Some s)) b (fin.remove spots name)
          stays none same = subst
              (λ g. IsLaidBelow classes size_max k caps g b (fin.remove spots name))
              (sym (ap (λ xs. (charge_all k caps grid xs).grid) none)) same

          tried : gone_items k caps (Some s) ≡ s.size ∷ [] → 1 ≤ s.size
              → IsLaidBelow classes size_max k caps (between k caps grid (Some s)) b (fin.remove spots name)
          tried one some = elim (cases_Bool (is_quiet (gone_charged k caps grid (Some s))))
              as (λ _. IsLaidBelow classes size_max k caps (between k caps grid (Some s)) b
              (fin.remove spots name)) [
                | inr needs_flush ↦ subst (λ g. IsLaidBelow classes size_max k caps g b
                    (fin.remove spots name))
                    (sym (loud_grid k caps grid (gone_items k caps (Some s))
                    (gone_tried k caps grid (Some s)) needs_flush))
                    (gone_high classes size_max k caps b grid spots h name s there
                    (high (Some s) there needs_flush))
                | inl quiet ↦
                    let q : QuietTo k caps grid (s.size ∷ []) (between k caps grid (Some s)) =
                    subst (λ xs. QuietTo k caps grid xs (between k caps grid (Some s))) one
                    (record { quiet = quiet; after_is = refl }) in
                    let f = found_one k caps grid (between k caps grid (Some s)) s.size q in
                    subst (λ g. IsLaidBelow classes size_max k caps g b (fin.remove spots name)) (sym f.2)
                    (gone_found classes size_max k caps b grid spots h name s there some f.0 f.1)
              ]

  -- A new object joins where it was charged, or an empty one.
  pub below_new : IsName name → fin.get spots name ≡ None → (size : ℕ) (after : List (List ℕ)) (place : ℕ)
      → size ≤ size_max → PlacedTo k caps grid size after place
      → IsLaidBelow classes size_max k caps after b
      (fin.insert spots name (record { place = place; size = size }))
  below_new is new size after place small p = elim (cases_lt 0 size)
      as (λ _. IsLaidBelow classes size_max k caps after b
      (fin.insert spots name (record { place = place; size = size }))) [
        | inr none ↦
            let empty : size ≡ 0 = omega (arith, none) in
            subst (λ g. IsLaidBelow classes size_max k caps g b
            (fin.insert spots name (record { place = place; size = size })))
            (sym (p.charged.after_is ∙ ap (λ n. (charge_all k caps grid (some_size n)).grid) empty))
            (subst (λ (s : Spot). IsLaidBelow classes size_max k caps grid b (fin.insert spots name s))
            (λ i. record { place = sym (p.empty empty) i; size = sym empty i })
            (new_empty classes size_max k caps b grid spots h name is new))
        | inl full ↦
            let some : 1 ≤ size = omega (arith, full) in
            let f = found_one k caps grid after size
            (subst (λ xs. QuietTo k caps grid xs after) (some_size-some k caps size some) p.charged) in
            subst (λ g. IsLaidBelow classes size_max k caps g b
            (fin.insert spots name (record { place = place; size = size }))) (sym f.2)
            (subst (λ (at : ℕ). IsLaidBelow classes size_max k caps
            (with_entry grid f.0 (class_of size) size) b
            (fin.insert spots name (record { place = at; size = size }))) (sym (p.behind f.0 some f.1))
            (new_found classes size_max k caps b grid spots h name is new size f.0 small some f.1))
      ]
