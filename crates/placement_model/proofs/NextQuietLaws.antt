-- The next book of a quiet change: the items that it charges are those that the spots give, and its book is
-- that of the spots after it.
use Rattle.std.specs.Prelude.{◌≡◌, ℕ, zero, suc, ◌+◌, ◌-◌, ◌≤◌, nat_lt, Bool, true, false, not, ◌&&◌, if◌then◌else◌, List, [], ◌∷◌, ◌++◌, length, drop, Option, Some, None, option_map, refl}
use Rattle.std.specs.List.{list_all}
use Rattle.std.proofs.Common.{arith, sym, ◌∙◌, ap, subst, inl, inr}
use Rattle.std.proofs.lemmas.Bool.{and_from, and_parts, cases_Bool, cond-false, cond-true, lt-ltb, ltb-true}
use Rattle.std.specs.FinMap as fin
use Rattle.std.specs.FinSet as set
use Rattle.byte_ranges.proofs.RangeLaws.{length-bytes_at}
use Rattle.size_class.specs.Classes.{class_of}
use Rattle.size_class.proofs.ClassLaws.{class_below}
use Rattle.slot_codec.specs.Names.{IsName}
use Rattle.slot_codec.specs.declared.codec.Record.{Record}
use Rattle.map_model.specs.Maps.{Map}
use Rattle.map_model.specs.Requests.{Change, changed}
use Rattle.segment_layout.specs.Shapes.{buffer_start, start_of, boundary_of, settled_caps, settled_grid}
use Rattle.segment_layout.specs.Books.{Book, Charged, buffered_after, charge_all, charge_change, found_room, is_new_buffered, is_quiet, item_of, new_item, next_book, old_item, reshaped, some_size, volumes, below_class, trigger}
use Rattle.segment_layout.proofs.ChargeLaws.{room_of_buffer}
use Rattle.table_rules.specs.Tables.{TableInLayout, is_buffered, lies_in_payload}
use Rattle.extent_table.specs.declared.spot.Spot.{Spot}
use Rattle.extent_table.specs.Extents.{Spots, record_of}
use Rattle.placement_model.specs.Buffered.{passes}
use Rattle.placement_model.specs.Laid.{settled_table}
use Rattle.placement_model.specs.LaidOut.{IsLaidOut, shown_book}
use Rattle.placement_model.specs.Quiet.{PlacedTo, QuietTo, gone_items, is_in_payload}
use Rattle.placement_model.specs.Reads.{EndWithin, object_at, read_at}
use Rattle.placement_model.proofs.BufferedLaws.{chosen-insert, chosen-remove, contains-chosen}
use Rattle.placement_model.proofs.EnterLaws.{by_name}
use Rattle.placement_model.proofs.LaidOutLaws.{class_in_use, laid_below, lies_is_place}
use Rattle.placement_model.proofs.QuietLaws.{found_one, quiet_then, some_size-some}
use Rattle.placement_model.proofs.ReadLaws.{get-read_at}
use Rattle.placement_model.proofs.SegmentLaws.{lies_parts, buffer_start-rises}
use Rattle.std.proofs.lemmas.List.{append-nil}

-- what is left of items that all found room found it
rest_found : (n : ℕ) (tried : List (ℕ × Bool)) → list_all (λ (item : ℕ × Bool). item.1) tried ≡ true
    → list_all (λ (item : ℕ × Bool). item.1) (drop n tried) ≡ true
rest_found zero tried all = all
rest_found (suc n) [] all = refl
rest_found (suc n) (item ∷ tried) all = rest_found n tried
    (and_parts item.1 (list_all (λ (item : ℕ × Bool). item.1) tried) all).1

-- nothing either way
either : (b : Bool) → (if b then [] else []) ≡ (let none : List ℕ = [] in none)
either true = refl
either false = refl

-- an object that stands in a buffer charges nothing, and neither does one without bytes
chosen : (size : ℕ) (p : Bool) → (if nat_lt 0 size && not p then [] else some_size size)
    ≡ (if p then some_size size else [])
chosen size p = elim (cases_Bool (nat_lt 0 size)) [
  | inl some ↦ ap (λ x. if x && not p then [] else some_size size) some ∙ flipped p
  | inr none ↦
      let empty : some_size size ≡ [] = cond-false (nat_lt 0 size) (size ∷ []) [] none in
      ap (λ x. if x && not p then [] else some_size size) none ∙ empty ∙ sym (either p)
      ∙ ap (λ (xs : List ℕ). if p then xs else []) (sym empty)
]
  where
    flipped : (b : Bool) → (if not b then [] else some_size size) ≡ (if b then some_size size else [])
    flipped true = refl
    flipped false = refl

-- of a quiet change the new object stands in a buffer exactly where it has bytes
new_buffered : (size : ℕ) (tried : List (ℕ × Bool)) → list_all (λ (item : ℕ × Bool). item.1) tried ≡ true
    → found_room (some_size size) (drop (length tried - length (some_size size)) tried) ≡ nat_lt 0 size
new_buffered size tried all = elim (cases_Bool (nat_lt 0 size)) [
  | inl some ↦
      ap (λ (xs : List ℕ). found_room xs (drop (length tried - length xs) tried))
      (cond-true (nat_lt 0 size) (size ∷ []) [] some)
      ∙ rest_found (length tried - 1) tried all ∙ sym some
  | inr none ↦ ap (λ (xs : List ℕ). found_room xs (drop (length tried - length xs) tried))
      (cond-false (nat_lt 0 size) (size ∷ []) [] none) ∙ sym none
]

module _ (classes size_max k : ℕ) (caps : List ℕ) (grid : List (List ℕ)) (spots : Spots)
    (h : IsLaidOut classes size_max k caps grid spots) where
  abbrev table : TableInLayout
  table = settled_table classes size_max k caps grid spots

  abbrev book : Book
  book = shown_book classes size_max k caps grid spots

  -- a name stands in a buffer exactly where its object has bytes and another place than its payload segment
  buffered_at : (name : List ℕ) (s : Spot) → fin.get spots name ≡ Some s
      → set.contains book.buffered name ≡ (nat_lt 0 s.size && not (is_in_payload k caps s))
  buffered_at name s there =
      let r = record_of (name, s) in
      contains-chosen (is_buffered table) spots h.named name ∙ ap (passes (is_buffered table) name) there
      ∙ elim (cases_Bool (nat_lt 0 s.size))
      as (λ _. ((nat_lt 0 s.size && nat_lt (class_of s.size) classes)
      && not (lies_in_payload table (class_of s.size) r))
      ≡ (nat_lt 0 s.size && not (is_in_payload k caps s))) [
        | inr none ↦ (λ i. (none i && nat_lt (class_of s.size) classes)
            && not (lies_in_payload table (class_of s.size) r))
            ∙ sym (ap (λ x. x && not (is_in_payload k caps s)) none)
        | inl some ↦ by some (ltb_some s.size some)
      ]
    where
      ltb_some : (n : ℕ) → nat_lt 0 n ≡ true → 1 ≤ n
      ltb_some zero is = absurd (cc)
      ltb_some (suc n) is = omega arith

      by : nat_lt 0 s.size ≡ true → 1 ≤ s.size
          → ((nat_lt 0 s.size && nat_lt (class_of s.size) classes)
          && not (lies_in_payload table (class_of s.size) (record_of (name, s))))
          ≡ (nat_lt 0 s.size && not (is_in_payload k caps s))
      by is some =
          let small = by_name (λ (r : Record). r.size ≤ size_max) spots h.named
          (laid_below classes size_max k caps grid spots h).sizes name s there in
          let low : nat_lt (class_of s.size) classes ≡ true = lt-ltb (class_of s.size) classes
          (class_in_use classes size_max k caps grid spots h.top s.size some small) in
          (λ i. and_from (nat_lt 0 s.size) (nat_lt (class_of s.size) classes) is low i
          && not (lies_is_place classes size_max k caps grid spots h name s there some i))
          ∙ sym (ap (λ x. x && not (is_in_payload k caps s)) is)

  -- a new object stands in a buffer, unless it is empty
  new_is_buffered : (name : List ℕ) (size place : ℕ) (mid after : List (List ℕ)) → size ≤ size_max
      → PlacedTo k caps mid size after place
      → nat_lt 0 size ≡ is_buffered table (record_of (name, record { place = place; size = size }))
  new_is_buffered name size place mid after small placed =
      let c = class_of size in
      let r = record_of (name, record { place = place; size = size }) in
      elim (cases_Bool (nat_lt 0 size)) [
        | inr none ↦ none ∙ sym (ap (λ x. (x && nat_lt c classes) && not (lies_in_payload table c r)) none)
        | inl is ↦
            let some : 1 ≤ size = ltb-true 0 size is in
            let low : nat_lt c classes ≡ true = lt-ltb c classes
            (class_in_use classes size_max k caps grid spots h.top size some small) in
            is ∙ sym (λ i. and_from (nat_lt 0 size) (nat_lt c classes) is low i && not (outside some i))
      ]
    where
      behind : 1 ≤ size → buffer_start k caps (class_of size) ≤ place
      behind some =
          let one = found_one k caps mid after size
          (subst (λ xs. QuietTo k caps mid xs after) (some_size-some k caps size some) placed.charged) in
          let room = room_of_buffer k caps mid (class_of size) size (class_below size) one.0 one.1 in
          omega (
            arith,
            placed.behind one.0 some one.1,
            buffer_start-rises k caps (class_of size) one.0 room.from_class
                (omega (arith, room.below_width, h.caps_full.full)),
          )

      outside : 1 ≤ size → lies_in_payload table (class_of size)
          (record_of (name, record { place = place; size = size })) ≡ false
      outside some = elim (cases_Bool (lies_in_payload table (class_of size)
          (record_of (name, record { place = place; size = size })))) [
            | inr off ↦ off
            | inl here ↦ absurd (omega (
              arith,
              (lies_parts (start_of k caps (class_of size)) (buffer_start k caps (class_of size))
                  (record_of (name, record { place = place; size = size })) here).1,
              behind some,
              some,
            ))
          ]

  module _ (base : ℕ) (file : List ℕ) (within : EndWithin base file spots) where
    abbrev objects : Map
    objects = read_at base file spots

    -- the size of the old object, if there is one
    item_at : (s : Spot) (name : List ℕ) → fin.get spots name ≡ Some s
        → item_of (option_map (object_at base file) (Some s)) ≡ some_size s.size
    item_at s name there = ap some_size (length-bytes_at file (base + s.place) s.size (within name s there))

    -- The old object of a name charges what its spot says.
    pub old_item-is : (name : List ℕ) → old_item objects book name ≡ gone_items k caps (fin.get spots name)
    old_item-is name =
        ap (λ o. if set.contains book.buffered name then [] else item_of o)
        (get-read_at base file spots h.named name)
        ∙ by (fin.get spots name) refl
      where
        by : (o : Option Spot) → fin.get spots name ≡ o
            → (if set.contains book.buffered name then [] else item_of (option_map (object_at base file) o))
            ≡ gone_items k caps o
        by None none = either (set.contains book.buffered name)
        by (Some s) there =
            (λ i. if buffered_at name s there i then [] else item_at s name there i)
            ∙ chosen s.size (is_in_payload k caps s)

    same_items : (c : Change) → charge_change k objects book c
        ≡ charge_all k caps grid (gone_items k caps (fin.get spots c.name) ++ new_item c)
    same_items c = ap (λ (xs : List ℕ). charge_all k caps grid (xs ++ new_item c)) (old_item-is c.name)

    -- The change is quiet exactly where each item that the spots give finds room.
    pub next_quiet : (c : Change) → (next_book k objects book c).quiet
        ≡ is_quiet (charge_all k caps grid (gone_items k caps (fin.get spots c.name) ++ new_item c))
    unfolding next_book
    next_quiet c = ap is_quiet (same_items c)

    -- the next book of a quiet change
    quiet_book : (c : Change) (charged : Charged) → charge_change k objects book c ≡ charged
        → is_quiet charged ≡ true → (next_book k objects book c).book
        ≡ record {
          caps = caps;
          grid = charged.grid;
          buffered = buffered_after book c charged;
          digests = None;
        }
    unfolding next_book
    quiet_book c charged same quiet =
        ap (λ (x : Charged).
        let shape = reshaped k caps x (volumes (changed c objects)) in
        let names = buffered_after book c x in
        let result : Book = record {
          caps = shape.caps;
          grid = shape.grid;
          buffered = if shape.quiet then names else below_class shape.boundary (changed c objects) names;
          digests = None;
        } in
        result) same
        ∙ (λ i.
        let b = boundary_of charged.grid (trigger charged) in
        let names = buffered_after book c charged in
        record {
          caps = if quiet i then caps else settled_caps b caps (volumes (changed c objects));
          grid = if quiet i then charged.grid else settled_grid b charged.grid;
          buffered = if quiet i then names else below_class b (changed c objects) names;
          digests = None;
        })

    -- A removal: its book is that of the spots without the name.
    pub book_gone : (name : List ℕ) (after : List (List ℕ))
        → QuietTo k caps grid (gone_items k caps (fin.get spots name)) after
        → (next_book k objects book (record { name = name; object = None })).book
        ≡ shown_book classes size_max k caps after (fin.remove spots name)
    book_gone name after q =
        let c : Change = record { name = name; object = None } in
        let charged = charge_all k caps grid (gone_items k caps (fin.get spots name)) in
        quiet_book c charged
        (same_items c ∙ ap (charge_all k caps grid) (append-nil (gone_items k caps (fin.get spots name))))
        q.quiet
        ∙ (λ i. record {
          caps = caps;
          grid = sym q.after_is i;
          buffered = sym (chosen-remove (is_buffered table) spots name h.named) i;
          digests = None;
        })

    -- A put: its book is that of the spots with the new one.
    pub book_put : (name object : List ℕ) (mid after : List (List ℕ)) (place : ℕ) → IsName name
        → length object ≤ size_max → QuietTo k caps grid (gone_items k caps (fin.get spots name)) mid
        → PlacedTo k caps mid (length object) after place
        → (next_book k objects book (record { name = name; object = Some object })).book
        ≡ shown_book classes size_max k caps after
        (fin.insert spots name (record { place = place; size = length object }))
    book_put name object mid after place is small gone placed =
        let c : Change = record { name = name; object = Some object } in
        let s : Spot = record { place = place; size = length object } in
        let items = gone_items k caps (fin.get spots name) ++ some_size (length object) in
        let charged = charge_all k caps grid items in
        let q = quiet_then k caps grid mid after (gone_items k caps (fin.get spots name))
        (some_size (length object)) gone placed.charged in
        let in_buffer : is_new_buffered c charged ≡ is_buffered table (record_of (name, s)) =
        new_buffered (length object) charged.tried q.quiet
        ∙ new_is_buffered name (length object) place mid after small placed in
        let rest = set.remove book.buffered name in
        quiet_book c charged (same_items c) q.quiet
        ∙ (λ i. record {
          caps = caps;
          grid = sym q.after_is i;
          buffered = (ap (λ x. if x then set.insert rest name else rest) in_buffer
              ∙ sym (chosen-insert (is_buffered table) spots name s h.named is)) i;
          digests = None;
        })
