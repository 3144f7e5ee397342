-- Items that are charged one after another: each finds room, and what the grid is then, or one finds none.
use Rattle.std.specs.Prelude.{◌≡◌, ◌⊎◌, ℕ, ◌≤◌, nat_le, nat_lt, Bool, true, false, ◌&&◌, List, [], ◌∷◌, ◌++◌, fold, Option, Some, None, refl}
use Rattle.std.proofs.Common.{arith, sym, ◌∙◌, ap, subst, inl, inr, append_assoc}
use Rattle.std.proofs.lemmas.Bool.{and_from, and_parts, cases_Bool, cond-false, cond-true, le-leb, leb-true, lt-ltb, ltb-true}
use Rattle.std.proofs.lemmas.List.{append-nil}
use Rattle.std.proofs.lemmas.List.Folds.{list_all-append}
use Rattle.size_class.specs.Classes.{IsGrid, class_of, width}
use Rattle.size_class.proofs.ClassLaws.{class_below}
use Rattle.segment_layout.specs.Shapes.{buffer_for, buffer_start, start_of, with_entry}
use Rattle.segment_layout.specs.Books.{Charged, charge_all, charge_one, entered_at, is_quiet, some_size}
use Rattle.segment_layout.proofs.ChargeLaws.{room_of_buffer}
use Rattle.segment_layout.proofs.ChargingLaws.{charge_all-append}
use Rattle.segment_layout.proofs.ShapeLaws.{IsGrid-with_entry}
use Rattle.extent_table.specs.declared.spot.Spot.{Spot}
use Rattle.placement_model.specs.Quiet.{InPayload, QuietTo, gone_items, is_in_payload}
use Rattle.placement_model.specs.Rises.{CellsRise}
use Rattle.placement_model.proofs.RiseLaws.{CellsRise-itself, CellsRise-then, CellsRise-with_entry}

-- ---- one list of items after another

-- what was tried before stands in front
abbrev behind : List (ℕ × Bool) → Charged → Charged
behind front charged = record { grid = charged.grid; tried = front ++ charged.tried }

module _ (k : ℕ) (caps : List ℕ) where
  from_here : (grid : List (List ℕ)) (front tried : List (ℕ × Bool)) (ys : List ℕ)
      → fold (charge_one k caps) (record { grid = grid; tried = front ++ tried }) ys
      ≡ behind front (fold (charge_one k caps) (record { grid = grid; tried = tried }) ys)
  from_here grid front tried [] = refl
  from_here grid front tried (y ∷ ys) =
      by (buffer_for k caps grid (class_of y) y) (λ after more. from_here after front more ys)
    where
      by : (o : Option ℕ) → ((after : List (List ℕ)) (more : List (ℕ × Bool))
          → fold (charge_one k caps) (record { grid = after; tried = front ++ more }) ys
          ≡ behind front (fold (charge_one k caps) (record { grid = after; tried = more }) ys))
          → fold (charge_one k caps) (entered_at (record { grid = grid; tried = front ++ tried }) y o) ys
          ≡ behind front
          (fold (charge_one k caps) (entered_at (record { grid = grid; tried = tried }) y o) ys)
      by None rest =
          ap (λ (ts : List (ℕ × Bool)). fold (charge_one k caps) (record { grid = grid; tried = ts }) ys)
          (append_assoc front tried ((y, false) ∷ []))
          ∙ rest grid (tried ++ (y, false) ∷ [])
      by (Some j) rest =
          let after = with_entry grid j (class_of y) y in
          ap (λ (ts : List (ℕ × Bool)). fold (charge_one k caps) (record { grid = after; tried = ts }) ys)
          (append_assoc front tried ((y, true) ∷ []))
          ∙ rest after (tried ++ (y, true) ∷ [])

  -- what is charged after other items, from the grid that they left
  pub charge_all-split : (grid : List (List ℕ)) (xs ys : List ℕ)
      → charge_all k caps grid (xs ++ ys)
      ≡ behind (charge_all k caps grid xs).tried (charge_all k caps (charge_all k caps grid xs).grid ys)
  charge_all-split grid xs ys =
      let done = charge_all k caps grid xs in
      charge_all-append k caps grid xs ys
      ∙ ap (λ (ts : List (ℕ × Bool)). fold (charge_one k caps) (record { grid = done.grid; tried = ts }) ys)
      (sym (append-nil done.tried))
      ∙ from_here done.grid done.tried [] ys

  is_quiet-split : (grid : List (List ℕ)) (xs ys : List ℕ)
      → is_quiet (charge_all k caps grid (xs ++ ys))
      ≡ (is_quiet (charge_all k caps grid xs)
      && is_quiet (charge_all k caps (charge_all k caps grid xs).grid ys))
  is_quiet-split grid xs ys =
      let done = charge_all k caps grid xs in
      ap is_quiet (charge_all-split grid xs ys)
      ∙ list_all-append (λ (item : ℕ × Bool). item.1) done.tried (charge_all k caps done.grid ys).tried

  -- ---- each item finds room

  one_at : (grid : List (List ℕ)) (size : ℕ) (o : Option ℕ)
      → buffer_for k caps grid (class_of size) size ≡ o
      → charge_all k caps grid (size ∷ []) ≡ entered_at (record { grid = grid; tried = [] }) size o
  one_at grid size o is = ap (entered_at (record { grid = grid; tried = [] }) size) is

  pub quiet_one : (grid : List (List ℕ)) (size j : ℕ) → buffer_for k caps grid (class_of size) size ≡ Some j
      → QuietTo k caps grid (size ∷ []) (with_entry grid j (class_of size) size)
  quiet_one grid size j is =
      let one = one_at grid size (Some j) is in
      record { quiet = ap is_quiet one; after_is = ap (λ (c : Charged). c.grid) (sym one) }

  pub loud_one : (grid : List (List ℕ)) (size : ℕ) → buffer_for k caps grid (class_of size) size ≡ None
      → is_quiet (charge_all k caps grid (size ∷ [])) ≡ false
  loud_one grid size is = ap is_quiet (one_at grid size None is)

  pub quiet_then : (grid mid after : List (List ℕ)) (xs ys : List ℕ) → QuietTo k caps grid xs mid
      → QuietTo k caps mid ys after → QuietTo k caps grid (xs ++ ys) after
  quiet_then grid mid after xs ys first second = record {
    quiet = is_quiet-split grid xs ys
        ∙ and_from (is_quiet (charge_all k caps grid xs))
        (is_quiet (charge_all k caps (charge_all k caps grid xs).grid ys)) first.quiet
        (ap (λ g. is_quiet (charge_all k caps g ys)) (sym first.after_is) ∙ second.quiet);
    after_is = second.after_is ∙ ap (λ g. (charge_all k caps g ys).grid) first.after_is
        ∙ ap (λ (c : Charged). c.grid) (sym (charge_all-split grid xs ys));
  }

  -- ---- the place of a new object

  pub some_size-some : (size : ℕ) → 1 ≤ size → some_size size ≡ size ∷ []
  some_size-some size some = cond-true (nat_lt 0 size) (size ∷ []) [] (lt-ltb 0 size (omega (arith, some)))

  -- ---- what an object that goes charges

  pub in_payload_is : (s : Spot) → InPayload k caps s → is_in_payload k caps s ≡ true
  in_payload_is s here = and_from (nat_le (start_of k caps (class_of s.size)) s.place)
      (nat_lt s.place (buffer_start k caps (class_of s.size)))
      (le-leb (start_of k caps (class_of s.size)) s.place here.0)
      (lt-ltb s.place (buffer_start k caps (class_of s.size)) here.1)

  pub in_payload_from : (s : Spot) → is_in_payload k caps s ≡ true → InPayload k caps s
  in_payload_from s is =
      let p = and_parts (nat_le (start_of k caps (class_of s.size)) s.place)
      (nat_lt s.place (buffer_start k caps (class_of s.size))) is in (
        leb-true (start_of k caps (class_of s.size)) s.place p.0,
        ltb-true s.place (buffer_start k caps (class_of s.size)) p.1,
      )

  pub gone_here : (s : Spot) → 1 ≤ s.size → InPayload k caps s → gone_items k caps (Some s) ≡ s.size ∷ []
  gone_here s some here = cond-true (is_in_payload k caps s) (some_size s.size) [] (in_payload_is s here)
      ∙ some_size-some s.size some

  pub gone_elsewhere : (s : Spot) → (s.size ≡ 0) ⊎ (InPayload k caps s → ⊥)
      → gone_items k caps (Some s) ≡ []
  gone_elsewhere s out = elim (cases_Bool (is_in_payload k caps s)) [
    | inr other ↦ cond-false (is_in_payload k caps s) (some_size s.size) [] other
    | inl here ↦ elim out [
      | inl none ↦ cond-true (is_in_payload k caps s) (some_size s.size) [] here ∙ ap some_size none
      | inr not_there ↦ absurd (not_there (in_payload_from s here))
    ]
  ]

-- ---- cells rise

module _ (k : ℕ) (caps : List ℕ) where
  -- the grid after items is full, and no cell has less
  rises : (grid : List (List ℕ)) (tried : List (ℕ × Bool)) (items : List ℕ) → IsGrid width grid
      → CellsRise grid (fold (charge_one k caps) (record { grid = grid; tried = tried }) items).grid
  rises grid tried [] full = CellsRise-itself grid
  rises grid tried (size ∷ items) full =
      by (buffer_for k caps grid (class_of size) size) refl (λ after more. rises after more items)
    where
      by : (o : Option ℕ) → buffer_for k caps grid (class_of size) size ≡ o
          → ((after : List (List ℕ)) (more : List (ℕ × Bool)) → IsGrid width after
          → CellsRise after (fold (charge_one k caps) (record { grid = after; tried = more }) items).grid)
          → CellsRise grid
          (fold (charge_one k caps) (entered_at (record { grid = grid; tried = tried }) size o) items).grid
      by None is rest = rest grid (tried ++ (size, false) ∷ []) full
      by (Some j) is rest =
          let room = room_of_buffer k caps grid (class_of size) size (class_below size) j is in
          let after = with_entry grid j (class_of size) size in
          CellsRise-then grid after _
          (CellsRise-with_entry grid j (class_of size) size (omega (arith, room.below_width, full.full))
          (omega (arith, class_below size, (full.rows j room.below_width).full)))
          (rest after (tried ++ (size, true) ∷ [])
          (IsGrid-with_entry width j (class_of size) size grid full room.below_width (class_below size)
          (omega arith)))

-- a grid of the classes in use is one of all
pub IsGrid-wider : (classes : ℕ) (grid : List (List ℕ)) → classes ≤ width → IsGrid classes grid
    → IsGrid width grid
IsGrid-wider classes grid few full = record {
  full = full.full;
  rows = λ j low. record {
    full = (full.rows j low).full;
    zero_above = λ c high. (full.rows j low).zero_above c (omega (arith, high, few));
  };
  zero_above = λ j c high. full.zero_above j c (omega (arith, high, few));
}

pub quiet_rises : (classes k : ℕ) (caps : List ℕ) (grid after : List (List ℕ)) (items : List ℕ)
    → classes ≤ width → IsGrid classes grid → QuietTo k caps grid items after → CellsRise grid after
quiet_rises classes k caps grid after items few full q =
    subst (λ g. CellsRise grid g) (sym q.after_is)
    (rises k caps grid [] items (IsGrid-wider classes grid few full))

-- one item that found room, the other way round
pub found_one : (k : ℕ) (caps : List ℕ) (grid after : List (List ℕ)) (size : ℕ)
    → QuietTo k caps grid (size ∷ []) after
    → (j : ℕ) × (buffer_for k caps grid (class_of size) size ≡ Some j)
    × (after ≡ with_entry grid j (class_of size) size)
found_one k caps grid after size q = by (buffer_for k caps grid (class_of size) size) refl
  where
    by : (o : Option ℕ) → buffer_for k caps grid (class_of size) size ≡ o
        → (j : ℕ) × (buffer_for k caps grid (class_of size) size ≡ Some j)
        × (after ≡ with_entry grid j (class_of size) size)
    by None none = absurd (let bad : false ≡ true = sym (loud_one k caps grid size none) ∙ q.quiet in cc)
    by (Some j) found = (j, found, q.after_is ∙ sym (quiet_one k caps grid size j found).after_is)
