-- Size classes by powers of two, and tables over them. A table has 32 cells; those of unused classes are 0.
use Rattle.std.specs.Prelude.{◌≡◌, ℕ, ◌+◌, ◌-◌, ◌^◌, ◌<◌, ◌≤◌, nat_le, List, [], length, count_by, find, unwrap_or, slice_index, slice_index_or, replicate}
use Rattle.byte_ranges.specs.Lists.{below}

abbrev pub width : ℕ
width = 32

-- the class of a size of at least 1: how many powers of two are at most the size, less one
unfoldable pub class_of : ℕ → ℕ
class_of size = count_by (λ c. nat_le (2 ^ c) size) (below width) - 1

-- the bounds of a class
pub record IsClass (class size : ℕ) : Type 0 where
  pub low : 2 ^ class ≤ size
  pub high : size < 2 ^ (class + 1)

-- the least n with k at most 2 to the n
unfoldable pub lg_up : ℕ → ℕ
lg_up k = unwrap_or (find (λ n. nat_le k (2 ^ n)) (below 64)) 64

unfoldable pub zero_row : List ℕ
zero_row = replicate width 0

unfoldable pub zero_grid : List (List ℕ)
zero_grid = replicate width zero_row

-- a row of a grid
abbrev pub row : List (List ℕ) → ℕ → List ℕ
row grid j = slice_index_or grid j []

-- a cell of a grid
abbrev pub cell : List (List ℕ) → ℕ → ℕ → ℕ
cell grid j c = slice_index (row grid j) c

-- a table for C classes
pub record IsRow (C : ℕ) (cells : List ℕ) : Type 0 where
  pub full : length cells ≡ width
  pub zero_above : (c : ℕ) → C ≤ c → slice_index cells c ≡ 0

-- a table for C classes in both directions
pub record IsGrid (C : ℕ) (grid : List (List ℕ)) : Type 0 where
  pub full : length grid ≡ width
  pub rows : (j : ℕ) → j < width → IsRow C (row grid j)
  pub zero_above : (j c : ℕ) → C ≤ j → cell grid j c ≡ 0
