-- Buffers that have taken more than before, cell by cell: each row's sum rises too, and a charge adds to
-- them.
use Rattle.std.specs.Prelude.{ℕ, suc, ◌<◌, ◌≤◌, List, [], ◌∷◌, length, sum, slice_index}
use Rattle.std.proofs.Common.{arith, inl, inr, ap}
use Rattle.std.proofs.lemmas.Bool.{cases_eq}
use Rattle.std.proofs.lemmas.List.Sums.{sum_by-cons}
use Rattle.size_class.specs.Classes.{row, cell}
use Rattle.segment_layout.specs.Shapes.{taken_in, with_entry}
use Rattle.segment_layout.proofs.ShapeLaws.{cell-with_entry_class, cell-with_entry_row, cell-with_entry_same}
use Rattle.placement_model.specs.Rises.{CellsRise}

sum_rises : (xs ys : List ℕ) → ((i : ℕ) → slice_index xs i ≤ slice_index ys i) → sum xs ≤ sum ys
sum_rises [] ys each = omega arith
sum_rises (x ∷ xs) [] each = omega (
  arith,
  sum_by-cons (λ (n : ℕ). n) x xs,
  each 0,
  sum_rises xs [] (λ i. each (suc i)),
)
sum_rises (x ∷ xs) (y ∷ ys) each = omega (
  arith,
  sum_by-cons (λ (n : ℕ). n) x xs,
  sum_by-cons (λ (n : ℕ). n) y ys,
  each 0,
  sum_rises xs ys (λ i. each (suc i)),
)

-- no buffer has taken less
pub taken-rises : (kept grid : List (List ℕ)) → CellsRise kept grid → (j : ℕ)
    → taken_in kept j ≤ taken_in grid j
taken-rises kept grid rise j = sum_rises (row kept j) (row grid j) (λ c. rise.cells j c)

pub CellsRise-itself : (grid : List (List ℕ)) → CellsRise grid grid
CellsRise-itself grid = record { cells = λ j c. omega arith }

pub CellsRise-then : (a b c : List (List ℕ)) → CellsRise a b → CellsRise b c → CellsRise a c
CellsRise-then a b c first then = record { cells = λ j d. omega (arith, first.cells j d, then.cells j d) }

-- a charge adds to one cell
pub CellsRise-with_entry : (grid : List (List ℕ)) (j c size : ℕ) → j < length grid → c < length (row grid j)
    → CellsRise grid (with_entry grid j c size)
CellsRise-with_entry grid j c size in_grid in_row = record { cells = more }
  where
    more : (i d : ℕ) → cell grid i d ≤ cell (with_entry grid j c size) i d
    more i d = elim (cases_eq i j) [
      | inr other ↦ omega (arith, cell-with_entry_row grid j c size i d other)
      | inl same ↦ elim (cases_eq d c) [
        | inr other ↦ omega (arith, cell-with_entry_class grid j c size i d other)
        | inl here ↦ omega (
          arith,
          cell-with_entry_same grid j c size in_grid in_row,
          ap (λ x. cell grid x d) same,
          ap (λ x. cell grid j x) here,
          ap (λ x. cell (with_entry grid j c size) x d) same,
          ap (λ x. cell (with_entry grid j c size) j x) here,
        )
      ]
    ]
