-- A moving table that was read from a file: its flush may go on.
use Rattle.std.specs.Prelude.{◌≡◌, ◌⊎◌, ℕ, ◌+◌, ◌<◌, ◌≤◌, ◌^◌, nat_lt, Bool, ◌&&◌, true, List, [], length, slice_index, IsPermutation, Some, refl}
use Rattle.std.specs.List.{list_all}
use Rattle.std.proofs.Common.{arith, ap, sym, ◌∙◌, subst, inl, inr}
use Rattle.std.proofs.lemmas.Bool.{and_parts, cases_Bool, cases_lt, cond-false, cond-true, le-ltb, lt-ltb, ltb-true}
use Rattle.std.proofs.lemmas.List.{ext_get_or}
use Rattle.std.proofs.lemmas.List.Sorted.{IsPermutation-refl}
use Rattle.std.specs.FinMap as fin
use Rattle.size_class.specs.Classes.{IsGrid, IsRow, cell, width, zero_row}
use Rattle.size_class.specs.declared.TheConstants.{SIZE_MAX}
use Rattle.size_class.proofs.ClassLaws.{length-zero_row, zero_row-index}
use Rattle.slot_codec.specs.Reading.{is_in_range}
use Rattle.slot_codec.specs.Readable.{IsSuperBlock}
use Rattle.slot_codec.specs.Spelling.{head_len}
use Rattle.slot_codec.specs.declared.codec.Header.{Header}
use Rattle.slot_codec.specs.declared.codec.Kind.TheVariants as kind
use Rattle.slot_codec.specs.declared.codec.Record.{Record}
use Rattle.slot_codec.specs.declared.codec.SuperBlock.{SuperBlock}
use Rattle.map_model.specs.Maps.{Map}
use Rattle.map_model.specs.Weights.{same_name}
use Rattle.map_model.proofs.MapLaws.{same_name-is}
use Rattle.segment_layout.specs.Books.{Book}
use Rattle.segment_layout.specs.Layouts.{caps_of, divisor_of, grid_of}
use Rattle.segment_layout.specs.Shapes.{is_boundary, settled_caps, settled_grid, start_of}
use Rattle.segment_layout.proofs.SettleLaws.{row_is_zero}
use Rattle.segment_layout.proofs.ShapeLaws.{boundary_from, caps-settled_above, caps-settled_below, length-settled_caps, length-settled_grid, row-settled_above, row-settled_below}
use Rattle.table_rules.specs.Rules.{IsValid}
use Rattle.table_rules.specs.Tables.{HasFullRows, TableInLayout, book_of, end_of_record, nth}
use Rattle.table_rules.proofs.TableLaws.{zero_cell}
use Rattle.extent_table.specs.declared.spot.Spot.{Spot}
use Rattle.extent_table.specs.Extents.{Spots, records_of}
use Rattle.placement_model.specs.Held.{IsFreed}
use Rattle.placement_model.specs.Laid.{laid, moving_header}
use Rattle.placement_model.proofs.EnterLaws.{by_name, apart_by_name}
use Rattle.placement_model.proofs.GuardLaws.{freed_nothing}
use Rattle.store_model.proofs.VersionLaws.{valid_as}
use Rattle.placement_model.proofs.LaidOutLaws.{class_in_use}
use Rattle.placement_model.proofs.QuietLaws.{IsGrid-wider}
use Rattle.flush_model.specs.declared.item.Item.{Item}
use Rattle.flush_model.specs.declared.item.Numbers.{Numbers}
use Rattle.flush_model.specs.Phases.{AreObjects, phase_of}
use Rattle.flush_model.specs.Plans.{AreBelow, AreSmall, ItemsCanResume}
use Rattle.flush_model.specs.Resumed.{numbers_again}
use Rattle.flush_run.specs.FlushFrames.{FlushFrame}
use Rattle.flush_run.specs.Hands.{HandsMatchPlan, suffix_items}
use Rattle.flush_run.specs.Shelved.{shelf_of}
use Rattle.flush_run.proofs.OverLaws.{shelf_holds}
use Rattle.store_model.proofs.AgainLaws.{items_can}
use Rattle.store_model.proofs.ObjectLaws.{are_objects}
use Rattle.store_model.proofs.SuffixLaws.{has_item}
use Rattle.reopen.specs.declared.state.Loaded.{Loaded}
use Rattle.reopen.specs.Loads.{KeepsLoaded}
use Rattle.flush_plan.specs.Packs.{CanGoOn}
use Rattle.flush_plan.specs.Shelves.{IsOnShelf}

module _ {C : ℕ} (x : Loaded C) (loads : KeepsLoaded x) (moving : x.header.kind ≡ kind.Moving) (few : C ≤ 32)
    (wide : SIZE_MAX < 2 ^ C) where
  abbrev k : ℕ
  k = x.slots.block.k

  abbrev caps : List ℕ
  caps = caps_of x.layout

  abbrev grid : List (List ℕ)
  grid = grid_of x.layout

  abbrev now : Spots
  now = x.table.now

  abbrev b : ℕ
  b = x.header.boundary

  abbrev wall : ℕ
  wall = x.header.wall

  abbrev slack : ℕ
  slack = x.header.slack

  row : IsRow C caps
  row = x.layout.caps.shape

  full : IsGrid C grid
  full = x.layout.used.shape

  pub same_k : x.block.k ≡ k
  same_k = ap (λ (y : SuperBlock). y.k) (sym loads.same_block)

  pub same_divisor : divisor_of x.layout ≡ k
  same_divisor = loads.divisor ∙ same_k

  -- the header, as its kind and the layout say
  abbrev h : Header
  h = record x.header { kind = kind.Moving; caps = caps; used = grid }

  header_is : x.header ≡ h
  header_is = λ i. record x.header { kind = moving i; caps = sym loads.caps i; used = sym loads.used i }

  pub wall_low : wall < 2 ^ 48
  wall_low =
      let last = and_parts (is_in_range wall && is_in_range slack && list_all is_in_range x.header.caps)
      (list_all (list_all is_in_range) x.header.used) loads.in_range in
      let middle = and_parts (is_in_range wall && is_in_range slack) (list_all is_in_range x.header.caps)
      last.0 in
      let first = and_parts (is_in_range wall) (is_in_range slack) middle.0 in
      ltb-true wall (2 ^ 48) first.0

  -- the items of the flush, and its numbers
  abbrev items : List Item
  items = suffix_items b x.table

  abbrev pub numbers : ℕ → Numbers
  numbers divisor = numbers_again divisor caps b wall slack items

  -- where it is read from a data part of a length, it is valid in it
  module _ (n : ℕ) (v : IsValid (laid C SIZE_MAX x.block.k n x.header now)) where
    abbrev t : TableInLayout
    t = laid C SIZE_MAX k n h now

    valid_h : IsValid t
    valid_h = subst (λ (y : Header). IsValid (laid C SIZE_MAX k n y now)) header_is
        (subst (λ q. IsValid (laid C SIZE_MAX q n x.header now)) same_k v)

    pub front : b < C
    front = valid_h.0.front

    within : b ≤ width
    within = omega (arith, front, few)

    rows : HasFullRows t
    rows = record { caps_full = row.full; grid_full = IsGrid-wider C grid few full; classes = few }

    cap_none : (c : ℕ) → b ≤ c → slice_index caps c ≡ 0
    cap_none c high = elim (cases_lt c width) [
      | inl low ↦ (valid_h.0.places.above c low).0 high
      | inr past ↦ row.zero_above c (omega (arith, past, few))
    ]

    cell_none : (j c : ℕ) → b ≤ j → cell grid j c ≡ 0
    cell_none j c high = zero_cell t rows valid_h.0.places j c (inl high)

    caps_stay : settled_caps b caps zero_row ≡ caps
    caps_stay = ext_get_or 0 (settled_caps b caps zero_row) caps
        (length-settled_caps b caps zero_row row.full length-zero_row within ∙ sym row.full)
        (λ c _. elim (cases_lt c b) [
          | inl low ↦ caps-settled_below b c caps zero_row row.full within low
          | inr high ↦ caps-settled_above b c caps zero_row row.full within high ∙ zero_row-index c
              ∙ sym (cap_none c high)
        ])

    grid_stays : settled_grid b grid ≡ grid
    grid_stays = ext_get_or [] (settled_grid b grid) grid
        (length-settled_grid b grid full.full within ∙ sym full.full)
        (λ j in_list. elim (cases_lt j b) [
          | inl low ↦ row-settled_below b j grid full.full within low
          | inr high ↦
              let low : j < width = omega (arith, in_list, length-settled_grid b grid full.full within) in
              row-settled_above b j grid full.full high low
              ∙ sym (row_is_zero _ (full.rows j low).full (λ c. cell_none j c high))
        ])

    -- its header is the one that a save in its flush gives it, but for the sequence and the count
    abbrev saved : Header
    saved = moving_header b wall slack caps grid

    saved_is : x.header ≡ record saved {
      version = x.header.version;
      sequence = x.header.sequence;
      count = x.header.count;
    }
    saved_is = header_is ∙ (λ i. record h { caps = sym caps_stay i; used = sym grid_stays i })

    valid_saved : IsValid (laid C SIZE_MAX k n saved now)
    valid_saved = valid_as 1 0 0
        (laid C SIZE_MAX k n (record saved {
          version = x.header.version;
          sequence = x.header.sequence;
          count = x.header.count;
        }) now)
        (subst (λ (y : Header). IsValid (laid C SIZE_MAX k n y now)) saved_is
        (subst (λ q. IsValid (laid C SIZE_MAX q n x.header now)) same_k v))

    pub book_saved : book_of (laid C SIZE_MAX k n saved now)
        ≡ book_of (laid C SIZE_MAX x.block.k n x.header now)
    book_saved = λ i. book_of (laid C SIZE_MAX (sym same_k i) n (sym saved_is i) now)

    pub whole : is_boundary grid b ≡ true
    whole = boundary_from b grid (λ j c high low. cell_none j c high)

    -- ---- what its rules say by name

    pub small : (name : List ℕ) (s : Spot) → fin.get now name ≡ Some s → s.size ≤ SIZE_MAX
    small = by_name (λ (r : Record). r.size ≤ SIZE_MAX) now loads.is_table.now_named valid_h.0.places.sizes

    ends : (name : List ℕ) (s : Spot) → fin.get now name ≡ Some s → s.place + s.size ≤ n
    ends = by_name (λ (r : Record). end_of_record r ≤ n) now loads.is_table.now_named (λ i low. omega (
      arith,
      valid_h.0.within i (omega (arith, low)),
      cond-true (nat_lt i (length (records_of now))) (end_of_record (nth t i)) wall
          (lt-ltb i (length (records_of now)) low),
    ))

    pub wall_within : wall ≤ n
    wall_within = omega (
      arith,
      valid_h.0.within (length (records_of now)) (omega arith),
      cond-false (nat_lt (length (records_of now)) (length (records_of now)))
          (end_of_record (nth t (length (records_of now)))) wall
          (le-ltb (length (records_of now)) (length (records_of now)) (omega arith)),
    )

    -- ---- the items

    pub objects : AreObjects b items
    objects = are_objects b x.table loads.is_table valid_h.0.places.apart

    pub below : AreBelow C items
    below it has = let o = has_item b x.table it has in
        omega (
          arith,
          class_in_use C SIZE_MAX k caps grid now wide o.spot.size o.some (small o.name o.spot o.stands),
          ap (λ (y : Item). y.class) o.is,
        )

    pub all_small : (divisor : ℕ) → AreSmall (numbers divisor) items
    all_small divisor = (
      omega (arith, wall_low),
      λ it has.
          let o = has_item b x.table it has in
          omega (
            arith,
            (loads.is_table.now_in_range o.name o.spot o.stands).0,
            ap (λ (y : Item). y.place) o.is,
          ),
    )

    -- ---- the hands

    -- The flight of a flush that goes on: from what was found to the same.
    abbrev pub again : Bool → Bool → Map → Book → FlushFrame
    again fresh rests m book = record {
      classes = C;
      size_max = SIZE_MAX;
      base = head_len x.slots.block.names;
      reach = n;
      is_fresh = fresh;
      is_at_rest = rests;
      old_map = m;
      old_book = book;
      new_map = m;
      new_book = book;
    }

    module _ (fresh rests : Bool) (m : Map) (book : Book) (divisor : ℕ) (same : divisor ≡ k) (all : List Item)
        (perm : IsPermutation all items) where
      pub hands_again : HandsMatchPlan (again fresh rests m book) x.slots x.table caps grid []
          (phase_of divisor caps (numbers divisor) 0 all)
      hands_again = record {
        block = subst IsSuperBlock (sym loads.same_block) loads.ranges;
        base = refl;
        names = loads.room ∙ ap (λ (y : SuperBlock). y.names) (sym loads.same_block);
        table = loads.is_table;
        divisor = same;
        few = few;
        caps_full = row;
        grid_full = full;
        same_caps = refl;
        boundary = front;
        start = ap (λ q. start_of q caps b) same;
        wall = omega arith;
        same_reach = wall_within;
        in_range = wall_low;
        items = perm;
        rules = valid_saved.0.places;
        lower = ends;
        freed = subst (λ y. IsFreed [] now y) (sym loads.kept) (freed_nothing now);
        kept_empty = subst (λ (y : Spots). (name : List ℕ) (s : Spot) → fin.get y name ≡ Some s → s.size ≡ 0
            → s.place ≡ 0) (sym loads.kept)
            (by_name (λ (r : Record). r.size ≡ 0 → r.place ≡ 0) now loads.is_table.now_named
            valid_h.0.places.empty);
        kept_apart = subst (λ (y : Spots). (a c : List ℕ) (s q : Spot) → fin.get y a ≡ Some s
            → fin.get y c ≡ Some q → (a ≡ c) ⊎ (s.size ≡ 0) ⊎ (q.size ≡ 0) ⊎ (s.place + s.size ≤ q.place)
            ⊎ (q.place + q.size ≤ s.place)) (sym loads.kept)
            (λ a c s q is there. elim (cases_Bool (same_name a c))
            as (λ _. (a ≡ c) ⊎ (s.size ≡ 0) ⊎ (q.size ≡ 0) ⊎ (s.place + s.size ≤ q.place)
            ⊎ (q.place + q.size ≤ s.place)) [
              | inl one ↦ inl (same_name-is a c one)
              | inr differ ↦ inr (apart_by_name now loads.is_table.now_named valid_h.0.places.apart a c s q is
                  there differ)
            ]);
      }

    pub can_again : (divisor : ℕ) → divisor ≡ k → ItemsCanResume divisor (numbers divisor) items
    can_again divisor same = items_can (again true true fin.empty (book_of t)) x.slots x.table caps grid []
        (phase_of divisor caps (numbers divisor) 0 items)
        (hands_again true true fin.empty (book_of t) divisor same items (IsPermutation-refl items))
        valid_saved.1

    -- ---- packing may go on

    abbrev divisor : ℕ
    divisor = divisor_of x.layout

    can : ItemsCanResume divisor (numbers divisor) items
    can = can_again divisor same_divisor

    on_shelf : IsOnShelf (numbers divisor).start items (shelf_of x.table)
    on_shelf = shelf_holds (again true true fin.empty (book_of t)) x.slots x.table caps grid []
        (phase_of divisor caps (numbers divisor) 0 items)
        (hands_again true true fin.empty (book_of t) divisor same_divisor items (IsPermutation-refl items))
        (λ it has. elim (can.side it has) as (λ _. (numbers divisor).start ≤ it.place) [
          | inl past ↦ omega (arith, past, can.wall)
          | inr within ↦ within.0
        ])

    -- with numbers that are those of the items, over the shelf of the table
    pub can_go_on : (m : Numbers) → m ≡ numbers divisor → CanGoOn C divisor caps m items (shelf_of x.table)
    can_go_on m same = subst (λ (y : Numbers). CanGoOn C divisor caps y items (shelf_of x.table)) (sym same)
        (record {
          objects = objects;
          resumes = can;
          start = refl;
          end = refl;
          reaches = omega arith;
          classes = below;
          small = all_small divisor;
          on = on_shelf;
        })
