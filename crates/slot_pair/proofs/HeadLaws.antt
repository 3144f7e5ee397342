-- The head of an entry, counted one cell and one change after another.
use Rattle.std.specs.Prelude.{◌≡◌, ℕ, ◌+◌, ◌<◌, ◌≤◌, ◌==◌, Bool, true, false, cond, not, List, [], ◌∷◌, ◌++◌, filter, length, map, option_map, slice_get, slice_index_or, take, unwrap_or, Option, Some, refl}
use Rattle.std.proofs.Common.{◌∙◌, ap, arith, subst, sym}
use Rattle.std.proofs.lemmas.Bool.{eq-eqb, ne_eqb}
use Rattle.std.proofs.lemmas.List.{length-map, take_all, take_more}
use Rattle.std.proofs.lemmas.List.Filters.{length-filter_more}
use Rattle.std.proofs.lemmas.Option.{get_or_from_slice_get, slice_get-get_or, slice_get-map}
use Rattle.byte_ranges.specs.Lists.{below}
use Rattle.byte_ranges.proofs.ListLaws.{below_at, length-below}
use Rattle.slot_codec.specs.Cells.{cell_of, cells_of, header_cells}
use Rattle.slot_codec.specs.Changes.{Change, gone, gone_of, kind_of_change, moved, moves_of, put, puts_of, same}
use Rattle.slot_codec.specs.declared.codec.Header.{Header}
use Rattle.slot_codec.specs.declared.delta.ChangeKind.{ChangeKind}
use Rattle.slot_codec.specs.declared.delta.ChangeKind.TheVariants as kind
use Rattle.slot_pair.specs.declared.head.ChangeCounts.{ChangeCounts}

-- ---- cells

-- whether a cell isn't 0
some_value : ℕ × ℕ → Bool
some_value p = not (p.1 == 0)

-- the cells of a header, each with its value
cell_pairs : Header → List (ℕ × ℕ)
cell_pairs h = map (λ i. (i, cell_of h i)) (below header_cells)

-- how many of the first n cells of a header aren't 0
pub cells_until : Header → ℕ → ℕ
cells_until h n = length (filter some_value (take n (cell_pairs h)))

pub no_cell_until : (h : Header) → cells_until h 0 ≡ 0
unfolding cells_until
no_cell_until h = refl

length-cell_pairs : (h : Header) → length (cell_pairs h) ≡ 1056
unfolding cell_pairs
length-cell_pairs h = length-map (below header_cells) (λ i. (i, cell_of h i)) ∙ length-below header_cells

cell_pair_at : (h : Header) (i : ℕ) → i < header_cells
    → slice_index_or (cell_pairs h) i (0, 0) ≡ (i, cell_of h i)
unfolding cell_pairs
cell_pair_at h i low =
    let pair : ℕ → ℕ × ℕ = λ i. (i, cell_of h i) in
    get_or_from_slice_get (map pair (below header_cells)) i (pair i) (0, 0)
    (slice_get-map pair (below header_cells) i
    ∙ ap (option_map pair) (slice_get-get_or (below header_cells) i 0
    (omega (arith, low, length-below header_cells)) ∙ ap Some (below_at header_cells i low)))

cells_until-more : (h : Header) (i : ℕ) → i < header_cells
    → cells_until h (i + 1) ≡ cells_until h i + cond (not (cell_of h i == 0)) 1 0
unfolding cells_until some_value
cells_until-more h i low =
    length-filter_more some_value (cell_pairs h) i (0, 0) (omega (arith, low, length-cell_pairs h))
    ∙ ap (λ (p : ℕ × ℕ). length (filter some_value (take i (cell_pairs h))) + cond (some_value p) 1 0)
    (cell_pair_at h i low)

pub zero_cell : (h : Header) (i : ℕ) → i < header_cells → cell_of h i ≡ 0
    → cells_until h (i + 1) ≡ cells_until h i
zero_cell h i low zero =
    let none : (cell_of h i == 0) ≡ true = eq-eqb (cell_of h i) 0 zero in
    omega (arith, cells_until-more h i low, ap {B = ℕ} (λ b. cond (not b) 1 0) none)

pub some_cell : (h : Header) (i : ℕ) → i < header_cells → (cell_of h i ≡ 0 → ⊥)
    → cells_until h (i + 1) ≡ cells_until h i + 1
some_cell h i low some =
    let one : (cell_of h i == 0) ≡ false = ne_eqb (cell_of h i) 0 some in
    omega (arith, cells_until-more h i low, ap {B = ℕ} (λ b. cond (not b) 1 0) one)

pub all_cells_until : (h : Header) → cells_until h header_cells ≡ length (cells_of h)
unfolding cells_until cell_pairs some_value
all_cells_until h =
    ap (λ ps. length (filter some_value ps))
    (take_all header_cells (cell_pairs h) (omega (arith, length-cell_pairs h)))

-- ---- changes

moves_more : (cs : List Change) (c : Change)
    → length (moves_of (cs ++ c ∷ [])) ≡ length (moves_of cs) + length (moves_of (c ∷ []))
moves_more [] c = omega arith
moves_more (same ∷ cs) c = moves_more cs c
moves_more (moved rank place ∷ cs) c = omega (arith, moves_more cs c)
moves_more (gone name ∷ cs) c = moves_more cs c
moves_more (put r ∷ cs) c = moves_more cs c

gone_more : (cs : List Change) (c : Change)
    → length (gone_of (cs ++ c ∷ [])) ≡ length (gone_of cs) + length (gone_of (c ∷ []))
gone_more [] c = omega arith
gone_more (same ∷ cs) c = gone_more cs c
gone_more (moved rank place ∷ cs) c = gone_more cs c
gone_more (gone name ∷ cs) c = omega (arith, gone_more cs c)
gone_more (put r ∷ cs) c = gone_more cs c

puts_more : (cs : List Change) (c : Change)
    → length (puts_of (cs ++ c ∷ [])) ≡ length (puts_of cs) + length (puts_of (c ∷ []))
puts_more [] c = omega arith
puts_more (same ∷ cs) c = puts_more cs c
puts_more (moved rank place ∷ cs) c = puts_more cs c
puts_more (gone name ∷ cs) c = puts_more cs c
puts_more (put r ∷ cs) c = omega (arith, puts_more cs c)

-- how many of the first n changes are of each kind
pub record CountsSoFar (counts : ChangeCounts) (changes : List Change) (n : ℕ) : Type 0 where
  pub moved : counts.moved ≡ length (moves_of (take n changes))
  pub gone : counts.gone ≡ length (gone_of (take n changes))
  pub puts : counts.puts ≡ length (puts_of (take n changes))
  pub few : counts.moved + counts.gone + counts.puts ≤ n

-- counts with one change more
abbrev pub with_kind : ChangeCounts → ChangeKind → ChangeCounts
with_kind counts kind.Same = counts
with_kind counts kind.Moved = record counts { moved = counts.moved + 1 }
with_kind counts kind.Gone = record counts { gone = counts.gone + 1 }
with_kind counts kind.Put = record counts { puts = counts.puts + 1 }

-- the counts of one change more
record IsOneMore (before after : ChangeCounts) (c : Change) : Type 0 where
  moved : after.moved ≡ before.moved + length (moves_of (c ∷ []))
  gone : after.gone ≡ before.gone + length (gone_of (c ∷ []))
  puts : after.puts ≡ before.puts + length (puts_of (c ∷ []))

with_change : (counts : ChangeCounts) (c : Change) → IsOneMore counts (with_kind counts (kind_of_change c)) c
with_change counts same = record { moved = omega arith; gone = omega arith; puts = omega arith }
with_change counts (moved rank place) = record { moved = omega arith; gone = omega arith; puts = omega arith }
with_change counts (gone name) = record { moved = omega arith; gone = omega arith; puts = omega arith }
with_change counts (put r) = record { moved = omega arith; gone = omega arith; puts = omega arith }

one_at_most : (c : Change)
    → length (moves_of (c ∷ [])) + length (gone_of (c ∷ [])) + length (puts_of (c ∷ [])) ≤ 1
one_at_most same = omega arith
one_at_most (moved rank place) = omega arith
one_at_most (gone name) = omega arith
one_at_most (put r) = omega arith

counted : (before after : ChangeCounts) (cs : List Change) (n : ℕ) (c : Change)
    → take (n + 1) cs ≡ take n cs ++ c ∷ [] → CountsSoFar before cs n → IsOneMore before after c
    → CountsSoFar after cs (n + 1)
counted before after cs n c longer so_far more = record {
  moved = more.moved
      ∙ omega (arith, so_far.moved, moves_more (take n cs) c, ap (λ xs. length (moves_of xs)) longer);
  gone = more.gone
      ∙ omega (arith, so_far.gone, gone_more (take n cs) c, ap (λ xs. length (gone_of xs)) longer);
  puts = more.puts
      ∙ omega (arith, so_far.puts, puts_more (take n cs) c, ap (λ xs. length (puts_of xs)) longer);
  few = omega (arith, so_far.few, more.moved, more.gone, more.puts, one_at_most c);
}

pub one_counted : (before after : ChangeCounts) (cs : List Change) (n : ℕ) (k : ChangeKind) → n < length cs
    → option_map kind_of_change (slice_get cs n) ≡ Some k → after ≡ with_kind before k
    → CountsSoFar before cs n → CountsSoFar after cs (n + 1)
one_counted before after cs n k low is counts so_far =
    let c : Change = slice_index_or cs n same in
    let kinds : kind_of_change c ≡ k =
    ap (λ (o : Option ChangeKind). unwrap_or o k)
    (sym (ap (option_map kind_of_change) (slice_get-get_or cs n same low)) ∙ is) in
    subst (λ counts. CountsSoFar counts cs (n + 1)) (ap (with_kind before) kinds ∙ sym counts)
    (counted before (with_kind before (kind_of_change c)) cs n c (take_more cs n same low) so_far
    (with_change before c))
