-- The numbers of the tables.
use Rattle.std.specs.Prelude.{ℕ, List}
use Rattle.size_class.specs.declared.row.Row.{Row}
use Rattle.size_class.specs.declared.grid.Grid.{Grid}

-- the cells of a row
abbrev pub cells_of : {C : ℕ} → Row C → List ℕ
cells_of r = r.cells

-- the rows of a grid
abbrev pub rows_of : {C : ℕ} → Grid C → List (List ℕ)
rows_of g = g.cells
