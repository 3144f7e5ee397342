-- What bytes weigh by class: the entries of a grid, and items. An entry more adds its weight, and laying
-- out anew takes the weight of the rows from the boundary on.
use Rattle.std.specs.Prelude.{◌≡◌, ℕ, ◌+◌, ◌*◌, ◌<◌, ◌≤◌, List, slice_index}
use Rattle.std.proofs.Common.{arith, sym, ◌∙◌, ap, inl, inr}
use Rattle.std.proofs.lemmas.Bool.{cases_lt}
use Rattle.byte_ranges.specs.Lists.{sum_below}
use Rattle.size_class.specs.Classes.{width, class_of, IsGrid, row, cell}
use Rattle.size_class.proofs.ClassLaws.{class_below}
use Rattle.segment_layout.specs.Shapes.{with_entry, settled_grid}
use Rattle.segment_layout.proofs.SumLaws.{sum_below_agree, sum_below_add, sum_below_zero, sum_below_one}
use Rattle.segment_layout.proofs.ShapeLaws.{row-with_entry_other, cell-with_entry_same, cell-with_entry_class, row-settled_below, cell-settled_above}
use Rattle.cost_laws.proofs.FewPlaces.{from, from-below, from-above}

-- the weight of bytes by class, where a byte of class c weighs r c
abbrev pub cells_weight : (ℕ → ℕ) → List ℕ → ℕ
cells_weight r cells = sum_below width (λ c. slice_index cells c * r c)

-- of an item
abbrev pub item_weight : (ℕ → ℕ) → ℕ → ℕ
item_weight r size = size * r (class_of size)

-- of the entries of a buffer, of all buffers, and of the buffers from b on
abbrev pub row_weight : (ℕ → ℕ) → List (List ℕ) → ℕ → ℕ
row_weight r grid j = cells_weight r (row grid j)

abbrev pub grid_weight : (ℕ → ℕ) → List (List ℕ) → ℕ
grid_weight r grid = sum_below width (row_weight r grid)

abbrev pub weight_from : (ℕ → ℕ) → ℕ → List (List ℕ) → ℕ
weight_from r b grid = sum_below width (from b (row_weight r grid))

pub weight-with_entry : (r : ℕ → ℕ) (grid : List (List ℕ)) (j size : ℕ) → IsGrid width grid → j < width
    → grid_weight r (with_entry grid j (class_of size) size) ≡ grid_weight r grid + item_weight r size
weight-with_entry r grid j size g hj =
    let c = class_of size in
    let new = with_entry grid j c size in
    let here : cell new j c ≡ cell grid j c + size =
    cell-with_entry_same grid j c size (omega (arith, g.full))
    (omega (arith, (g.rows j hj).full, class_below size)) in
    let grown : cell new j c * r c ≡ cell grid j c * r c + item_weight r size =
    ap (λ x. x * r c) here ∙ omega arith in
    let in_row : row_weight r new j + cell grid j c * r c ≡ row_weight r grid j + cell new j c * r c =
    sum_below_one width c (λ d. cell new j d * r d) (λ d. cell grid j d * r d) (class_below size)
    (λ d other. ap (λ x. x * r d) (cell-with_entry_class grid j c size j d other)) in
    let in_grid : grid_weight r new + row_weight r grid j ≡ grid_weight r grid + row_weight r new j =
    sum_below_one width j (row_weight r new) (row_weight r grid) hj
    (λ i other. ap (cells_weight r) (row-with_entry_other grid j c size i other)) in
    omega (arith, grown, in_row, in_grid)

pub weight-settled : (r : ℕ → ℕ) (b : ℕ) (grid : List (List ℕ)) → IsGrid width grid → b ≤ width
    → grid_weight r (settled_grid b grid) + weight_from r b grid ≡ grid_weight r grid
weight-settled r b grid g fits =
    let new = settled_grid b grid in
    sym (sum_below_add width (row_weight r new) (from b (row_weight r grid)))
    ∙ sum_below_agree width (λ j. row_weight r new j + from b (row_weight r grid) j) (row_weight r grid)
    (λ j h.
    elim (cases_lt j b) [
      | inl low ↦ omega (
        arith,
        ap (cells_weight r) (row-settled_below b j grid g.full fits low),
        from-below b j (row_weight r grid) low,
      )
      | inr high ↦
          let none : row_weight r new j ≡ 0 =
          sum_below_zero width (λ c. cell new j c * r c) (λ c hc. let z : 0 * r c ≡ 0 = omega arith in
          ap (λ x. x * r c) (cell-settled_above b j c grid g.full fits high) ∙ z) in
          omega (arith, none, from-above b j (row_weight r grid) high)
    ])
