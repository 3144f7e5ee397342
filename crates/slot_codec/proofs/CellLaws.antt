-- The cells of a header that aren't 0 give its capacities and numbers back.
use Rattle.std.proofs.Common.{inl, inr, ◌≡◌, ◌⊎◌, ℕ, zero, suc, ◌+◌, ◌-◌, ◌*◌, ◌/◌, ◌%◌, ◌<◌, ◌≤◌, ◌^◌, Bool, true, false, not, ◌&&◌, List, [], ◌∷◌, length, map, refl, sym, ap, ◌∙◌, subst, arith}
use Rattle.std.proofs.lemmas.Bool.{and_parts, cases_Bool, cases_lt, cond-false, cond-true, eqb-true, eqb-false, le-ltb, lt-ltb, ltb-true, cases_eq}
use Rattle.std.proofs.lemmas.List.{get_or-replicate, get_or-set_other, get_or-set_same, get_or_default, length-map, length-replicate, length-set, same_lists}
use Rattle.std.proofs.lemmas.List.Folds.{list_all_at}
use Rattle.std.proofs.lemmas.List.Sums.{count_by-le-length, length-filter}
use Rattle.std.proofs.lemmas.Grind.{same_number_lists}
use Rattle.std.specs.List.{list_all}
use Rattle.std.specs.Prelude.{◌==◌, IsTrue, cond, filter, nat_lt, replicate, slice_index, slice_index_or, slice_set}
use Rattle.byte_ranges.specs.Lists.{below, counting_from}
use Rattle.byte_ranges.proofs.ListLaws.{length-below}
use Rattle.slot_codec.specs.Cells.{cell_of, cells_of, header_cells, with_cell, with_used, without_cells}
use Rattle.slot_codec.specs.Items.{AreItems, after_items}
use Rattle.slot_codec.specs.Logs.{Given, IsCell, begun, with_given}
use Rattle.slot_codec.specs.Readable.{IsFull, IsHeader}
use Rattle.slot_codec.specs.Reading.{all_in_range, is_in_range}
use Rattle.slot_codec.specs.declared.codec.Header.{Header}
use Rattle.slot_codec.specs.declared.entry.EntryHead.{EntryHead}

-- the tables of a header are full
record AreFull (h : Header) : Type 0 where
  caps : length h.caps ≡ 32
  used : length h.used ≡ 32
  rows : (j : ℕ) → j < 32 → length (slice_index_or h.used j []) ≡ 32

-- ---- a cell

cell_low : (h : Header) (i : ℕ) → i < 32 → cell_of h i ≡ slice_index h.caps i
cell_low h i low = cond-true (nat_lt i 32) _ _ (lt-ltb i 32 low)

cell_high : (h : Header) (i : ℕ) → 32 ≤ i
    → cell_of h i ≡ slice_index (slice_index_or h.used (i / 32 - 1) []) (i % 32)
cell_high h i high = cond-false (nat_lt i 32) _ _ (le-ltb i 32 high)

with_low : (h : Header) (i value : ℕ) → i < 32
    → with_cell h i value ≡ record h { caps = slice_set h.caps i value }
with_low h i value low = cond-true (nat_lt i 32) _ _ (lt-ltb i 32 low)

with_high : (h : Header) (i value : ℕ) → 32 ≤ i
    → with_cell h i value ≡ record h { used = with_used h.used i value }
with_high h i value high = cond-false (nat_lt i 32) _ _ (le-ltb i 32 high)

same_cell : (h : Header) (i value : ℕ) → AreFull h → i < header_cells → (i < 32) ⊎ (32 ≤ i)
    → cell_of (with_cell h i value) i ≡ value
same_cell h i value full within (inl low) =
    ap (λ h. cell_of h i) (with_low h i value low)
    ∙ cell_low (record h { caps = slice_set h.caps i value }) i low
    ∙ get_or-set_same h.caps i value 0 (omega (arith, low, full.caps))
same_cell h i value full within (inr high) =
    let j : ℕ = i / 32 - 1 in
    let buffer : j < 32 = omega (arith, high, within) in
    let class : i % 32 < 32 = omega arith in
    let row : List ℕ = slice_index_or h.used j [] in
    ap (λ h. cell_of h i) (with_high h i value high)
    ∙ cell_high (record h { used = with_used h.used i value }) i high
    ∙ ap (λ r. slice_index r (i % 32)) (get_or-set_same h.used j (slice_set row (i % 32) value) []
    (omega (arith, buffer, full.used)))
    ∙ get_or-set_same row (i % 32) value 0 (omega (arith, class, full.rows j buffer))

-- two numbers of buffers are in different buffers, or in one at different places
apart : (i j : ℕ) → 32 ≤ i → 32 ≤ j → (j ≡ i → ⊥) → j / 32 - 1 ≡ i / 32 - 1 → j % 32 ≡ i % 32 → ⊥
apart i j i_high j_high other buffer class = other (omega (arith, i_high, j_high, buffer, class))

other_high : (used : List (List ℕ)) (i j value : ℕ) → length used ≡ 32 → i < header_cells → 32 ≤ i → 32 ≤ j
    → (j ≡ i → ⊥) → (j / 32 - 1 ≡ i / 32 - 1) ⊎ (j / 32 - 1 ≡ i / 32 - 1 → ⊥)
    → slice_index (slice_index_or (with_used used i value) (j / 32 - 1) []) (j % 32)
    ≡ slice_index (slice_index_or used (j / 32 - 1) []) (j % 32)
other_high used i j value full within i_high j_high other (inl buffer) =
    let n : ℕ = i / 32 - 1 in
    let row : List ℕ = slice_index_or used n [] in
    let low : n < 32 = omega (arith, i_high, within) in
    ap (λ k. slice_index (slice_index_or (with_used used i value) k []) (j % 32)) buffer
    ∙ ap (λ r. slice_index r (j % 32)) (get_or-set_same used n (slice_set row (i % 32) value) []
    (omega (arith, low, full)))
    ∙ get_or-set_other row (i % 32) (j % 32) value 0 (λ class. apart i j i_high j_high other buffer class)
    ∙ ap (λ k. slice_index (slice_index_or used k []) (j % 32)) (sym buffer)
other_high used i j value full within i_high j_high other (inr buffer) =
    let n : ℕ = i / 32 - 1 in
    let row : List ℕ = slice_index_or used n [] in
    ap (λ r. slice_index r (j % 32))
    (get_or-set_other used n (j / 32 - 1) (slice_set row (i % 32) value) [] buffer)

other_cell : (h : Header) (i j value : ℕ) → AreFull h → i < header_cells → (j ≡ i → ⊥) → (i < 32) ⊎ (32 ≤ i)
    → (j < 32) ⊎ (32 ≤ j) → cell_of (with_cell h i value) j ≡ cell_of h j
other_cell h i j value full within other (inl low) (inl j_low) =
    ap (λ h. cell_of h j) (with_low h i value low)
    ∙ cell_low (record h { caps = slice_set h.caps i value }) j j_low
    ∙ get_or-set_other h.caps i j value 0 other ∙ sym (cell_low h j j_low)
other_cell h i j value full within other (inl low) (inr j_high) =
    ap (λ h. cell_of h j) (with_low h i value low)
    ∙ cell_high (record h { caps = slice_set h.caps i value }) j j_high ∙ sym (cell_high h j j_high)
other_cell h i j value full within other (inr high) (inl j_low) =
    ap (λ h. cell_of h j) (with_high h i value high)
    ∙ cell_low (record h { used = with_used h.used i value }) j j_low ∙ sym (cell_low h j j_low)
other_cell h i j value full within other (inr high) (inr j_high) =
    ap (λ h. cell_of h j) (with_high h i value high)
    ∙ cell_high (record h { used = with_used h.used i value }) j j_high
    ∙ other_high h.used i j value full.used within high j_high other (cases_eq (j / 32 - 1) (i / 32 - 1))
    ∙ sym (cell_high h j j_high)

row_long : (used : List (List ℕ)) (n i value : ℕ) → length used ≡ 32 → n < 32
    → ((j : ℕ) → j < 32 → length (slice_index_or used j []) ≡ 32) → (j : ℕ) → j < 32 → (j ≡ n) ⊎ (j ≡ n → ⊥)
    → length (slice_index_or (slice_set used n (slice_set (slice_index_or used n []) i value)) j []) ≡ 32
row_long used n i value full low rows j within (inl same) =
    let row : List ℕ = slice_index_or used n [] in
    ap (λ k. length (slice_index_or (slice_set used n (slice_set row i value)) k [])) same
    ∙ ap length (get_or-set_same used n (slice_set row i value) [] (omega (arith, low, full)))
    ∙ length-set row i value ∙ rows n low
row_long used n i value full low rows j within (inr other) =
    let row : List ℕ = slice_index_or used n [] in
    ap length (get_or-set_other used n j (slice_set row i value) [] other) ∙ rows j within

full_still : (h : Header) (i value : ℕ) → AreFull h → i < header_cells → (i < 32) ⊎ (32 ≤ i)
    → AreFull (with_cell h i value)
full_still h i value full within (inl low) =
    let now : AreFull (record h { caps = slice_set h.caps i value }) = record {
      caps = length-set h.caps i value ∙ full.caps;
      used = full.used;
      rows = full.rows;
    } in
    subst AreFull (sym (with_low h i value low)) now
full_still h i value full within (inr high) =
    let n : ℕ = i / 32 - 1 in
    let low : n < 32 = omega (arith, high, within) in
    let row : List ℕ = slice_index_or h.used n [] in
    let now : AreFull (record h { used = with_used h.used i value }) = record {
      caps = full.caps;
      used = length-set h.used n (slice_set row (i % 32) value) ∙ full.used;
      rows = λ j within. row_long h.used n (i % 32) value full.used low full.rows j within (cases_eq j n);
    } in
    subst AreFull (sym (with_high h i value high)) now

-- a header without its cells
bare : Header → Header
bare h = record h { caps = []; used = [] }

bare_still : (h : Header) (i value : ℕ) → (i < 32) ⊎ (32 ≤ i) → bare (with_cell h i value) ≡ bare h
unfolding bare
bare_still h i value (inl low) = ap bare (with_low h i value low)
bare_still h i value (inr high) = ap bare (with_high h i value high)

-- ---- the cells that aren't 0, one after another

-- of n cells from a first one on, those that aren't 0, each with its value
some_cells : Header → ℕ → ℕ → List (ℕ × ℕ)
some_cells h first n =
    filter (λ (p : ℕ × ℕ). not (p.1 == 0)) (map (λ i. (i, cell_of h i)) (counting_from first n))

some_cells-more : (h : Header) (first n : ℕ) → some_cells h first (suc n)
    ≡ cond (not (cell_of h first == 0)) ((first, cell_of h first) ∷ some_cells h (first + 1) n)
    (some_cells h (first + 1) n)
unfolding some_cells
some_cells-more h first n = refl

some_cells-none : (h : Header) (first : ℕ) → some_cells h first zero ≡ []
unfolding some_cells
some_cells-none h first = refl

all_cells : (h : Header) (n : ℕ)
    → filter (λ (p : ℕ × ℕ). not (p.1 == 0)) (map (λ i. (i, cell_of h i)) (below n)) ≡ some_cells h 0 n
unfolding below some_cells
all_cells h n = refl

-- full headers that are alike but for their cells, of which those below a number are alike too, and the other
-- ones of the second are 0
record Agrees (h start : Header) (first : ℕ) (g : Header) : Type 0 where
  full : AreFull g
  others : bare g ≡ bare start
  low : (i : ℕ) → i < first → cell_of g i ≡ cell_of h i
  high : (i : ℕ) → first ≤ i → i < header_cells → cell_of g i ≡ 0

no_cell : (h start : Header) (first : ℕ) (g : Header) → first < header_cells → cell_of h first ≡ 0
    → Agrees h start first g → Agrees h start (first + 1) g
no_cell h start first g within none a = record {
  full = a.full;
  others = a.others;
  low = λ i low. at_most i low (cases_lt i first);
  high = λ i high below. a.high i (omega (arith, high)) below;
}
  where
    at_most : (i : ℕ) → i < first + 1 → (i < first) ⊎ (first ≤ i) → cell_of g i ≡ cell_of h i
    at_most i low (inl less) = a.low i less
    at_most i low (inr high) =
        let is : i ≡ first = omega (arith, low, high) in
        ap (cell_of g) is ∙ a.high first (omega arith) within ∙ sym none ∙ ap (cell_of h) (sym is)

a_cell : (h start : Header) (first : ℕ) (g : Header) → first < header_cells → Agrees h start first g
    → Agrees h start (first + 1) (with_cell g first (cell_of h first))
a_cell h start first g within a = record {
  full = full_still g first (cell_of h first) a.full within (cases_lt first 32);
  others = bare_still g first (cell_of h first) (cases_lt first 32) ∙ a.others;
  low = λ i low. at_most i low (cases_lt i first);
  high = λ i high below.
      other_cell g first i (cell_of h first) a.full within (λ is. omega (arith, is, high)) (cases_lt first 32)
      (cases_lt i 32) ∙ a.high i (omega (arith, high)) below;
}
  where
    at_most : (i : ℕ) → i < first + 1 → (i < first) ⊎ (first ≤ i)
        → cell_of (with_cell g first (cell_of h first)) i ≡ cell_of h i
    at_most i low (inl less) = other_cell g first i (cell_of h first) a.full within
        (λ is. omega (arith, is, less)) (cases_lt first 32) (cases_lt i 32) ∙ a.low i less
    at_most i low (inr high) =
        let is : i ≡ first = omega (arith, low, high) in
        ap (cell_of (with_cell g first (cell_of h first))) is
        ∙ same_cell g first (cell_of h first) a.full within (cases_lt first 32) ∙ ap (cell_of h) (sym is)

-- what cells make of a header on its way
record Gives (h start : Header) (to : ℕ) (g : Given) (ps : List (ℕ × ℕ)) : Type 0 where
  are : AreItems IsCell with_given g ps
  agrees : Agrees h start to (after_items with_given g ps).header

positive : (n : ℕ) → (n ≡ 0 → ⊥) → 0 < n
positive zero h = absurd (h refl)
positive (suc n) h = omega arith

give : (h start : Header) (first n to : ℕ) (g : Given) → first + n ≡ to → to ≤ header_cells
    → ((i : ℕ) → i < header_cells → cell_of h i < 2 ^ 48) → g.next ≤ first → Agrees h start first g.header
    → Gives h start to g (some_cells h first n)
give h start first zero to g end within ranges next a =
    let is : first ≡ to = omega (arith, end) in
    subst (Gives h start to g) (sym (some_cells-none h first))
    record { are = tt; agrees = subst (λ k. Agrees h start k g.header) is a }
give h start first (suc n) to g end within ranges next a =
    let here : first < header_cells = omega (arith, end, within) in
    let rest : first + 1 + n ≡ to = omega (arith, end) in
    let value = cell_of h first in
    elim (cases_Bool (value == 0)) [
      | inl none ↦
          let later = give h start (first + 1) n to g rest within ranges (omega (arith, next))
          (no_cell h start first g.header here (eqb-true value 0 none) a) in
          let is : some_cells h first (suc n) ≡ some_cells h (first + 1) n = some_cells-more h first n
          ∙ ap (λ b. cond (not b) ((first, value) ∷ some_cells h (first + 1) n)
          (some_cells h (first + 1) n)) none in
          subst (Gives h start to g) (sym is) later
      | inr some ↦
          let now : Given = with_given g (first, value) in
          let later = give h start (first + 1) n to now rest within ranges (omega arith)
          (a_cell h start first g.header here a) in
          let is : some_cells h first (suc n) ≡ (first, value) ∷ some_cells h (first + 1) n =
          some_cells-more h first n
          ∙ ap (λ b. cond (not b) ((first, value) ∷ some_cells h (first + 1) n)
          (some_cells h (first + 1) n)) some in
          let cell : IsCell g (first, value) = record {
            later = next;
            cell = here;
            some = positive value (eqb-false value 0 some);
            range = ranges first here;
          } in
          subst (Gives h start to g) (sym is) record { are = (cell, later.are); agrees = later.agrees }
    ]

-- ---- at the end

same_row : (h g : Header) (j : ℕ) → AreFull h → AreFull g → j < 32
    → ((i : ℕ) → i < header_cells → cell_of g i ≡ cell_of h i)
    → slice_index_or g.used j [] ≡ slice_index_or h.used j []
same_row h g j full full_g low same =
    same_number_lists (slice_index_or g.used j []) (slice_index_or h.used j [])
    (full_g.rows j low ∙ sym (full.rows j low)) (λ k within.
    let class : k < 32 = omega (arith, within, full_g.rows j low) in
    let i : ℕ = 32 + 32 * j + k in
    let buffer : (32 + 32 * j + k) / 32 - 1 ≡ j = omega (arith, class) in
    let place : (32 + 32 * j + k) % 32 ≡ k = omega (arith, class) in
    let at : (x : Header) → cell_of x i ≡ slice_index (slice_index_or x.used j []) k =
    λ x. cell_high x i (omega arith)
    ∙ ap (λ n. slice_index (slice_index_or x.used n []) (i % 32)) buffer
    ∙ ap (slice_index (slice_index_or x.used j [])) place in
    sym (at g) ∙ same i (omega (arith, class, low)) ∙ at h)

same_cells : (h g : Header) → AreFull h → AreFull g → ((i : ℕ) → i < header_cells → cell_of g i ≡ cell_of h i)
    → (g.caps ≡ h.caps) × (g.used ≡ h.used)
same_cells h g full full_g same = (
  same_number_lists g.caps h.caps (full_g.caps ∙ sym full.caps) (λ i within.
      let low : i < 32 = omega (arith, within, full_g.caps) in
      sym (cell_low g i low) ∙ same i (omega (arith, low)) ∙ cell_low h i low),
  same_lists g.used h.used (full_g.used ∙ sym full.used) (λ j d within.
      let low : j < 32 = omega (arith, within, full_g.used) in
      get_or_default g.used j d [] within ∙ same_row h g j full full_g low same
      ∙ get_or_default h.used j [] d (omega (arith, low, full.used))),
)

-- a header without cells agrees with any other at none
zero_cell : (start : Header) (i : ℕ) → i < header_cells → (i < 32) ⊎ (32 ≤ i)
    → cell_of (without_cells start) i ≡ 0
zero_cell start i within (inl low) =
    cell_low (without_cells start) i low ∙ get_or-replicate 32 i 0 0 low
zero_cell start i within (inr high) =
    let class : i % 32 < 32 = omega arith in
    cell_high (without_cells start) i high
    ∙ ap (λ r. slice_index r (i % 32))
    (get_or-replicate 32 (i / 32 - 1) (replicate 32 0) [] (omega (arith, high, within)))
    ∙ get_or-replicate 32 (i % 32) 0 0 class

agrees_first : (h start : Header) → Agrees h start 0 (without_cells start)
unfolding bare
agrees_first h start = record {
  full = record {
    caps = length-replicate {A = ℕ} 32 0;
    used = length-replicate {A = List ℕ} 32 (replicate 32 0);
    rows = λ j low. ap length (get_or-replicate 32 j (replicate 32 0) [] low) ∙ length-replicate {A = ℕ} 32 0;
  };
  others = refl;
  low = λ i low. absurd (omega (arith, low));
  high = λ i high within. zero_cell start i within (cases_lt i 32);
}

-- its cells are in range
all_at : {X : Type 0} (p : X → Bool) (xs : List X) (i : ℕ) (d : X) → list_all p xs ≡ true → i < length xs
    → p (slice_index_or xs i d) ≡ true
all_at p xs i d all low =
    elim (cases_Bool (p (slice_index_or xs i d))) [
      | inl fits ↦ fits
      | inr fails ↦ absurd (differ (sym all ∙ list_all_at p xs i d low fails))
    ]
  where
    differ : true ≡ false → ⊥
    differ h = cc

cell_range : (h : Header) → AreFull h → IsTrue (all_in_range h) → (i : ℕ) → i < header_cells
    → cell_of h i < 2 ^ 48
cell_range h full ranges i within =
    let used = and_parts (is_in_range h.wall && is_in_range h.slack && list_all is_in_range h.caps)
    (list_all (list_all is_in_range) h.used) ranges in
    let caps = and_parts (is_in_range h.wall && is_in_range h.slack) (list_all is_in_range h.caps) used.0 in
    elim (cases_lt i 32) [
      | inl low ↦
          let is = all_at is_in_range h.caps i 0 caps.1 (omega (arith, low, full.caps)) in
          let less = ltb-true (slice_index h.caps i) (2 ^ 48) is in
          omega (arith, cell_low h i low, less)
      | inr high ↦
          let j : ℕ = i / 32 - 1 in
          let buffer : j < 32 = omega (arith, high, within) in
          let class : i % 32 < 32 = omega arith in
          let row = all_at (list_all is_in_range) h.used j [] used.1 (omega (arith, buffer, full.used)) in
          let is = all_at is_in_range (slice_index_or h.used j []) (i % 32) 0 row
          (omega (arith, class, full.rows j buffer)) in
          let less = ltb-true (slice_index (slice_index_or h.used j []) (i % 32)) (2 ^ 48) is in
          omega (arith, cell_high h i high, less)
    ]

-- what the cells of a header that aren't 0 make of one without cells
pub record GivesCells (h start : Header) : Type 0 where
  pub are : AreItems IsCell with_given (record { next = 0; header = without_cells start }) (cells_of h)
  pub header : (after_items with_given (record { next = 0; header = without_cells start })
      (cells_of h)).header
      ≡ record start { caps = h.caps; used = h.used }

bare_same : (g start : Header) (caps : List ℕ) (used : List (List ℕ)) → bare g ≡ bare start
    → record g { caps = caps; used = used } ≡ record start { caps = caps; used = used }
unfolding bare
bare_same g start caps used same = ap (λ (h : Header). record h { caps = caps; used = used }) same

-- they are cells, and give its capacities and numbers
pub cells_give : (h start : Header) → IsFull h → GivesCells h start
cells_give h start is =
    let full : AreFull h = record { caps = is.caps_full; used = is.used_full; rows = is.rows_full } in
    let ranges = cell_range h full is.ranges in
    let g : Given = record { next = 0; header = without_cells start } in
    let gives = give h start 0 header_cells header_cells g (omega arith) (omega arith) ranges (omega arith)
    (agrees_first h start) in
    let all : Gives h start header_cells g (cells_of h) =
    subst (Gives h start header_cells g) (sym (all_cells h header_cells)) gives in
    let now : Header = (after_items with_given g (cells_of h)).header in
    let same = same_cells h now full all.agrees.full all.agrees.low in
    let own : now ≡ record now { caps = h.caps; used = h.used } =
    λ i. record now { caps = same.0 i; used = same.1 i } in
    record { are = all.are; header = own ∙ bare_same now start h.caps h.used all.agrees.others }

-- they are at most as many as a header has
pub cells_few : (h : Header) → length (cells_of h) ≤ header_cells
cells_few h =
    let some : ℕ × ℕ → Bool = λ p. not (p.1 == 0) in
    let all : List (ℕ × ℕ) = map (λ i. (i, cell_of h i)) (below header_cells) in
    let long : length all ≡ header_cells =
    length-map (below header_cells) (λ i. (i, cell_of h i)) ∙ length-below header_cells in
    omega (arith, length-filter some all, count_by-le-length some all, long)

-- a header in range is full
pub header_full : (names : ℕ) (h : Header) → IsHeader names h → IsFull h
header_full names h is = record {
  ranges = is.ranges;
  caps_full = is.caps_full;
  used_full = is.used_full;
  rows_full = is.rows_full;
}

-- the header behind an entry's head has no cells
pub begun_bare : (x : Header) (head : EntryHead) → without_cells (begun x head) ≡ begun x head
begun_bare x head = refl
