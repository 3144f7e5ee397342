-- The book of a flush is the next one of the change, from where it begins on.
use Rattle.std.specs.Prelude.{◌≡◌, ℕ, ◌-◌, ◌<◌, ◌≤◌, nat_lt, Bool, true, false, not, ◌&&◌, if◌then◌else◌, List, [], ◌∷◌, ◌++◌, length, drop, Option, Some, None, option_map, refl}
use Rattle.std.proofs.Common.{arith, sym, ◌∙◌, ap, subst, inl, inr}
use Rattle.std.proofs.lemmas.Bool.{cases_Bool, cases_lt, cond-false, cond-true, lt-ltb}
use Rattle.std.specs.FinMap as fin
use Rattle.std.specs.FinSet as set
use Rattle.size_class.specs.Classes.{class_of}
use Rattle.size_class.proofs.ClassLaws.{class_below}
use Rattle.slot_codec.specs.Choice as choice
use Rattle.span_math.specs.declared.span.Span.{Span}
use Rattle.map_model.specs.Maps.{Map}
use Rattle.map_model.specs.Requests.{Change, changed}
use Rattle.map_model.specs.Weights.{same_name}
use Rattle.map_model.proofs.MapLaws.{name_order, same_name-is}
use Rattle.segment_layout.specs.Books.{Book, Charged, Names, entered_at, below_class, buffered_after, charge_all, charge_change, digests_after, found_room, is_new_buffered, item_of, new_item, next_book, old_item, reshaped, some_size, trigger, volumes}
use Rattle.segment_layout.specs.Shapes.{boundary_of, buffer_for, buffer_start, settled_caps, settled_grid, start_of}
use Rattle.segment_layout.proofs.ChargeLaws.{room_of_buffer}
use Rattle.segment_layout.proofs.ChargingLaws.{last_found}
use Rattle.segment_layout.proofs.NextLaws.{after_here, after_other}
use Rattle.table_rules.specs.Tables.{TableInLayout, book_of, is_buffered, lies_in_payload}
use Rattle.extent_table.specs.declared.spot.Spot.{Spot}
use Rattle.extent_table.specs.Extents.{Extents, Spots, record_of}
use Rattle.placement_model.specs.Buffered.{AreBuffered, passes}
use Rattle.placement_model.specs.Laid.{laid, moving_header, settled_table}
use Rattle.placement_model.specs.LaidOut.{shown_book}
use Rattle.placement_model.specs.Quiet.{PlacedTo, QuietTo, gone_items}
use Rattle.placement_model.specs.Reads.{AreNamed, read_at}
use Rattle.placement_model.proofs.BufferedLaws.{contains-chosen}
use Rattle.placement_model.proofs.NextBookLaws.{suffix_book}
use Rattle.placement_model.proofs.NextQuietLaws.{old_item-is}
use Rattle.placement_model.proofs.QuietLaws.{charge_all-split, found_one, some_size-some}
use Rattle.placement_model.proofs.SegmentLaws.{buffer_start-rises, lies_parts}
use Rattle.store_model.proofs.HandsLaws.{begun_header}
use Rattle.placement_model.specs.Tried.{between, charged_by, gone_charged, new_charged}
use Rattle.store_model.specs.Starts.{IsLoud, WasBefore}
use Rattle.store_model.proofs.LaidEndLaws.{blank, in_blank}
use Rattle.store_model.specs.Sized.{IsSizedBy, object_size}
use Rattle.store_model.proofs.SizedLaws.{sized_has, sized_read, sized_volumes}

-- what an object of a size charges
item_is : (o : Option (List ℕ)) → item_of o ≡ some_size (object_size o)
item_is None = refl
item_is (Some v) = refl

-- objects of one size charge the same
same_item : (o x : Option (List ℕ)) → option_map length o ≡ option_map length x → item_of o ≡ item_of x
same_item None None same = refl
same_item None (Some y) same = absurd (cc)
same_item (Some v) None same = absurd (cc)
same_item (Some v) (Some y) same = let e : length v ≡ length y = cc in ap some_size e

module _ (classes size_max : ℕ) (caps : List ℕ) (grid kept_grid : List (List ℕ)) (u : choice.InUse)
    (e : Extents)
    (spans : List Span) (h : WasBefore classes size_max caps grid kept_grid u e spans) (m : Map)
    (sized : IsSizedBy m e.now) (c : Change) (after : List (List ℕ)) (b : ℕ)
    (l : IsLoud u.block.k caps grid (fin.get e.now c.name) (object_size c.object) after b) where
  abbrev k : ℕ
  k = u.block.k

  abbrev old : Option Spot
  old = fin.get e.now c.name

  abbrev mid : List (List ℕ)
  mid = between k caps grid old

  abbrev size : ℕ
  size = object_size c.object

  abbrev book : Book
  book = shown_book classes size_max k caps grid e.now

  abbrev charged : Charged
  charged = charged_by k caps grid old size

  -- ---- the next book

  -- the items that the map and the book give are those that the spots give
  old_is : old_item m book c.name ≡ gone_items k caps old
  old_is =
      let file = blank classes size_max k caps grid e.now h.both.now_laid in
      let within = in_blank classes size_max k caps grid e.now h.both.now_laid in
      let zeros = read_at 0 file e.now in
      ap (λ xs. if set.contains book.buffered c.name then [] else xs)
      (same_item (fin.get m c.name) (fin.get zeros c.name)
      (sized c.name ∙ sym (sized_read 0 file e.now h.both.now_laid.named within c.name)))
      ∙ old_item-is classes size_max k caps grid e.now h.both.now_laid 0 file within c.name

  same_charges : charge_change k m book c ≡ charged
  same_charges = λ i. charge_all k caps grid (old_is i ++ item_is c.object i)

  abbrev pub names : Names
  names = buffered_after book c charged

  pub next_is : (next_book k m book c).book ≡ record {
    caps = settled_caps b caps (volumes (changed c m));
    grid = settled_grid b after;
    buffered = below_class b (changed c m) names;
    digests = digests_after c book.digests;
  }
  unfolding next_book
  next_is =
      ap (λ (x : Charged).
      let shape = reshaped k caps x (volumes (changed c m)) in
      let ns = buffered_after book c x in
      let result : Book = record {
        caps = shape.caps;
        grid = shape.grid;
        buffered = if shape.quiet then ns else below_class shape.boundary (changed c m) ns;
        digests = digests_after c book.digests;
      } in
      result) same_charges
      ∙ (λ i.
      let d = boundary_of charged.grid (trigger charged) in
      record {
        caps = if l.needs_flush i then caps else settled_caps d caps (volumes (changed c m));
        grid = if l.needs_flush i then charged.grid else settled_grid d charged.grid;
        buffered = if l.needs_flush i then names else below_class d (changed c m) names;
        digests = digests_after c book.digests;
      })
      ∙ (λ i. record {
        caps = settled_caps (same_boundary i) caps (volumes (changed c m));
        grid = settled_grid (same_boundary i) (sym l.after_is i);
        buffered = below_class (same_boundary i) (changed c m) names;
        digests = digests_after c book.digests;
      })
    where
      same_boundary : boundary_of charged.grid (trigger charged) ≡ b
      same_boundary = ap (λ g. boundary_of g (trigger charged)) (sym l.after_is) ∙ sym l.boundary

  -- ---- the names that stand in buffers

  abbrev settled : TableInLayout
  settled = settled_table classes size_max k caps grid e.now

  -- what is said of the table, if it lies by these capacities
  abbrev pub begun : ℕ → ℕ → ℕ → Spots → TableInLayout
  begun wall slack reach now = laid classes size_max k reach (begun_header b wall slack caps after) now

  -- whether another name stands in a buffer is as it was
  other_gone : (q : List ℕ) → same_name q c.name ≡ false → fin.get e.now q ≡ None → set.contains names q
      ≡ false
  other_gone q other none =
      after_other book.buffered c.name q (is_new_buffered c charged) other
      ∙ contains-chosen (is_buffered settled) e.now h.both.now_laid.named q
      ∙ ap (passes (is_buffered settled) q) none

  other_same : b < classes → (q : List ℕ) → same_name q c.name ≡ false → (s : Spot) → fin.get e.now q ≡ Some s
      → class_of s.size < b
      → set.contains names q ≡ (nat_lt 0 s.size && not
      (lies_in_payload settled (class_of s.size) (record_of (q, s))))
  other_same fits q other s there low =
      after_other book.buffered c.name q (is_new_buffered c charged) other
      ∙ contains-chosen (is_buffered settled) e.now h.both.now_laid.named q
      ∙ ap (passes (is_buffered settled) q) there
      ∙ ap (λ x. (nat_lt 0 s.size && x) && not (lies_in_payload settled (class_of s.size) (record_of (q, s))))
      (lt-ltb (class_of s.size) classes (omega (arith, low, fits))) ∙ dropped (nat_lt 0 s.size) _
    where
      dropped : (x y : Bool) → ((x && true) && y) ≡ (x && y)
      dropped true y = refl
      dropped false y = refl

  -- the name itself stands in one where its new object found room
  here_is : set.contains names c.name ≡ is_new_buffered c charged
  here_is = after_here book.buffered c.name (is_new_buffered c charged)

  none_buffered : c.object ≡ None → is_new_buffered c charged ≡ false
  none_buffered none = ap (λ o. found_room (item_of o)
      (drop (length charged.tried - length (item_of o)) charged.tried))
      none

  -- ---- the book of the table

  -- a table of these spots has the next book, if its names in buffers are these
  pub book_begun : (wall slack reach : ℕ) (now : Spots) → b < classes → AreNamed now
      → IsSizedBy (changed c m) now
      → length after ≡ 32 → AreBuffered b (begun wall slack reach now) now names
      → book_of (laid classes size_max k reach (moving_header b wall slack caps after) now)
      ≡ (next_book k m book c).book
  book_begun wall slack reach now fits named has long are =
      suffix_book b (begun wall slack reach now) now (changed c m) names h.both.now_laid.caps_full.full long
      (omega (arith, fits, h.both.now_laid.few)) named refl (sized_has (changed c m) now has) are
      (sized_volumes (changed c m) now has named)
      ∙ sym next_is

  -- ---- where the name is gone, or waits

  module _ (fits : b < classes) (wall slack reach : ℕ) where
    -- the name is gone for good
    pub buffered_removed : c.object ≡ None → AreBuffered b (begun wall slack reach (fin.remove e.now c.name))
        (fin.remove e.now c.name) names
    buffered_removed none = record {
      gone = λ q is. elim (cases_Bool (same_name q c.name)) [
        | inl same ↦ ap (set.contains names) (same_name-is q c.name same) ∙ here_is ∙ none_buffered none
        | inr other ↦ other_gone q other (sym (get_other q other) ∙ is)
      ];
      same = λ q s is low. elim (cases_Bool (same_name q c.name)) [
        | inl same ↦ absurd (let bad : None ≡ Some s = sym (fin.get-remove name_order e.now c.name q
            ∙ cond-true (same_name q c.name) None (fin.get e.now q) same) ∙ is in cc)
        | inr other ↦ other_same fits q other s (sym (get_other q other) ∙ is) low
      ];
    }
      where
        get_other : (q : List ℕ) → same_name q c.name ≡ false → fin.get (fin.remove e.now c.name) q
            ≡ fin.get e.now q
        get_other q other = fin.get-remove name_order e.now c.name q
            ∙ cond-false (same_name q c.name) None (fin.get e.now q) other

    -- it has a new object
    buffered_put : (s : Spot) → (class_of s.size < b → is_new_buffered c charged
        ≡ (nat_lt 0 s.size && not (lies_in_payload settled (class_of s.size) (record_of (c.name, s)))))
        → AreBuffered b (begun wall slack reach (fin.insert e.now c.name s)) (fin.insert e.now c.name s) names
    buffered_put s here = record {
      gone = λ q is. elim (cases_Bool (same_name q c.name)) [
        | inl same ↦ absurd (let bad : Some s ≡ None = sym (fin.get-insert name_order e.now c.name s q
            ∙ cond-true (same_name q c.name) (Some s) (fin.get e.now q) same) ∙ is in cc)
        | inr other ↦ other_gone q other (sym (get_other q other) ∙ is)
      ];
      same = λ q x is low. elim (cases_Bool (same_name q c.name)) [
        | inl same ↦
            let name : q ≡ c.name = same_name-is q c.name same in
            let spot : s ≡ x = let e : Some s ≡ Some x = sym (fin.get-insert name_order e.now c.name s q
            ∙ cond-true (same_name q c.name) (Some s) (fin.get e.now q) same) ∙ is in cc in
            ap (set.contains names) name ∙ here_is
            ∙ here (omega (arith, low, ap (λ (y : Spot). class_of y.size) spot))
            ∙ (λ i. nat_lt 0 (spot i).size && not (lies_in_payload settled (class_of (spot i).size)
            (record_of (sym name i, spot i))))
        | inr other ↦ other_same fits q other x (sym (get_other q other) ∙ is) low
      ];
    }
      where
        get_other : (q : List ℕ) → same_name q c.name ≡ false → fin.get (fin.insert e.now c.name s) q
            ≡ fin.get e.now q
        get_other q other = fin.get-insert name_order e.now c.name s q
            ∙ cond-false (same_name q c.name) (Some s) (fin.get e.now q) other

    -- it waits for the flush: its class is b or more
    pub buffered_pending : (s : Spot) → b ≤ class_of s.size
        → AreBuffered b (begun wall slack reach (fin.insert e.now c.name s)) (fin.insert e.now c.name s) names
    buffered_pending s high = buffered_put s (λ low. absurd (omega (arith, low, high)))

    -- it found room, and stands there
    pub buffered_placed : (place : ℕ) → PlacedTo k caps mid size after place
        → AreBuffered b (begun wall slack reach (fin.insert e.now c.name
        (record { place = place; size = size })))
        (fin.insert e.now c.name (record { place = place; size = size })) names
    buffered_placed place placed = buffered_put (record { place = place; size = size }) (λ low. found)
      where
        spot : Spot
        spot = record { place = place; size = size }

        full : 1 ≤ size → (is_new_buffered c charged ≡ true)
            × (lies_in_payload settled (class_of size)
            (record_of (c.name, record { place = place; size = size })) ≡ false)
        full some =
            let q : QuietTo k caps mid (size ∷ []) after = subst (λ xs. QuietTo k caps mid xs after)
            (some_size-some k caps size some) placed.charged in
            let one = found_one k caps mid after size q in
            let room = room_of_buffer k caps mid (class_of size) size (class_below size) one.0 one.1 in
            let item : new_item c ≡ size ∷ [] = item_is c.object ∙ some_size-some k caps size some in
            let second : (new_charged k caps mid size).tried ≡ (size, true) ∷ [] =
            ap (λ xs. (charge_all k caps mid xs).tried) (some_size-some k caps size some)
            ∙ one_tried mid size one.0 one.1 in
            let tried : charged.tried ≡ (gone_charged k caps grid old).tried ++ (size, true) ∷ [] =
            ap (λ (x : Charged). x.tried) (charge_all-split k caps grid (gone_items k caps old)
            (some_size size))
            ∙ ap (λ ts. (gone_charged k caps grid old).tried ++ ts) second in (
              (λ i. found_room (item i) (drop (length (tried i) - length (item i)) (tried i)))
                  ∙ last_found (gone_charged k caps grid old).tried size true,
              outside (omega (
                arith,
                placed.behind one.0 some one.1,
                buffer_start-rises k caps (class_of size) one.0 room.from_class
                    (omega (arith, room.below_width, h.both.now_laid.caps_full.full)),
              )) some,
            )
          where
            one_tried : (g : List (List ℕ)) (w j : ℕ) → buffer_for k caps g (class_of w) w ≡ Some j
                → (charge_all k caps g (w ∷ [])).tried ≡ (w, true) ∷ []
            one_tried g w j is = ap (λ (o : Option ℕ). (entered_at (record { grid = g; tried = [] }) w
                o).tried) is

            outside : buffer_start k caps (class_of size) ≤ place → 1 ≤ size
                → lies_in_payload settled (class_of size)
                (record_of (c.name, record { place = place; size = size }))
                ≡ false
            outside behind some = elim (cases_Bool (lies_in_payload settled (class_of size)
                (record_of (c.name, record { place = place; size = size })))) [
                  | inr off ↦ off
                  | inl here ↦ absurd (omega (
                    arith,
                    (lies_parts (start_of k caps (class_of size)) (buffer_start k caps (class_of size))
                        (record_of (c.name, record { place = place; size = size })) here).1,
                    behind,
                    some,
                  ))
                ]

        found : is_new_buffered c charged
            ≡ (nat_lt 0 size && not (lies_in_payload settled (class_of size)
            (record_of (c.name, record { place = place; size = size }))))
        found = elim (cases_lt 0 size) [
          | inl some ↦
              let f = full (omega (arith, some)) in
              f.0 ∙ sym (λ i. lt-ltb 0 size some i && not (f.1 i))
          | inr none ↦
              let empty : size ≡ 0 = omega (arith, none) in
              let item : new_item c ≡ [] = item_is c.object ∙ ap some_size empty in
              ap (λ (xs : List ℕ). found_room xs (drop (length charged.tried - length xs) charged.tried)) item
              ∙ sym (ap (λ n. nat_lt 0 n && not (lies_in_payload settled (class_of size)
              (record_of (c.name, record { place = place; size = size })))) empty)
        ]
