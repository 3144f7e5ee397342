-- The cells of a header: its 32 capacities, and 32 numbers for each of its 32 buffers, counted through.
use Rattle.std.specs.Prelude.{ℕ, ◌-◌, ◌/◌, ◌%◌, ◌==◌, nat_lt, not, if◌then◌else◌, List, [], filter, map, replicate, slice_index, slice_index_or, slice_set}
use Rattle.byte_ranges.specs.Lists.{below}
use Rattle.slot_codec.specs.declared.codec.Header.{Header}

-- how many they are
abbrev pub header_cells : ℕ
header_cells = 1056

-- the value of a cell
abbrev pub cell_of : Header → ℕ → ℕ
cell_of h i = if nat_lt i 32 then slice_index h.caps i else
    slice_index (slice_index_or h.used (i / 32 - 1) []) (i % 32)

-- what buffers have taken, with another number in one of the cells
abbrev pub with_used : List (List ℕ) → ℕ → ℕ → List (List ℕ)
with_used used i value =
    slice_set used (i / 32 - 1) (slice_set (slice_index_or used (i / 32 - 1) []) (i % 32) value)

-- a header with another value in a cell
abbrev pub with_cell : Header → ℕ → ℕ → Header
with_cell h i value = if nat_lt i 32 then record h { caps = slice_set h.caps i value } else
    record h { used = with_used h.used i value }

-- a header with 0 in each cell
abbrev pub without_cells : Header → Header
without_cells h = record h { caps = replicate 32 0; used = replicate 32 (replicate 32 0) }

-- which cells aren't 0, in order, each with its value
abbrev pub cells_of : Header → List (ℕ × ℕ)
cells_of h = filter (λ (p : ℕ × ℕ). not (p.1 == 0)) (map (λ i. (i, cell_of h i)) (below header_cells))
