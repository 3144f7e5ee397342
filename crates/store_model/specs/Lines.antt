-- The lines of a list: each name with the size of its object.
use Rattle.std.specs.Prelude.{◌≡◌, ℕ, ◌≤◌, List, ◌++◌, length, map, flat_map, codes, decimal}
use Rattle.std.specs.FinMap as fin
use Rattle.extent_table.specs.Extents.{Spots}

-- each name with the size of its object, by rising name
abbrev pub listing_of : Spots → List (List ℕ × ℕ)
listing_of spots = map (λ e. (e.0, e.1.size)) (fin.entries spots)

abbrev pub line_of : List ℕ × ℕ → List ℕ
line_of e = e.0 ++ codes " " ++ decimal e.1 ++ codes "\n"

abbrev pub lines_of : List (List ℕ × ℕ) → List ℕ
lines_of listing = flat_map line_of listing

-- What was put and what is gathered is the same after some of it was put.
pub record IsMoved (put gathered put_after gathered_after : List ℕ) : Type 0 where
  pub same : put_after ++ gathered_after ≡ put ++ gathered
  pub longer : length put ≤ length put_after
