-- Grids cell by cell: which have no entries in buffers from a class on, and which have no less than an
-- earlier one.
use Rattle.std.specs.Prelude.{◌≡◌, ℕ, ◌≤◌, List}
use Rattle.size_class.specs.Classes.{cell}

-- no entries stand in buffers from C on
abbrev pub HasNoneFrom : ℕ → List (List ℕ) → Type 0
HasNoneFrom C grid = (j c : ℕ) → C ≤ j → cell grid j c ≡ 0

-- no cell of the first grid has more bytes than that of the second
abbrev pub NoCellFalls : List (List ℕ) → List (List ℕ) → Type 0
NoCellFalls old new = (j c : ℕ) → cell old j c ≤ cell new j c
