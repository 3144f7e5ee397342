-- What a change moves at most: nothing where it is quiet; else nothing below the boundary, and from there
-- on each byte of the map after at most twice.
use Rattle.std.specs.Prelude.{◌≡◌, ℕ, ◌+◌, ◌-◌, ◌*◌, ◌<◌, ◌≤◌, true, false, List, map, slice_index}
use Rattle.byte_ranges.specs.Lists.{below}
use Rattle.size_class.specs.Classes.{width}
use Rattle.map_model.specs.Maps.{Map}
use Rattle.map_model.specs.Requests.{Change}
use Rattle.segment_layout.specs.Books.{Book, Next, next_book, volumes}

-- the moved bytes by class before and after a flush from a boundary on, which leads to a map
pub record MovesFew (boundary : ℕ) (m : Map) (old new : List ℕ) : Type 0 where
  pub later : (c : ℕ) → slice_index old c ≤ slice_index new c
  pub below : (c : ℕ) → c < boundary → slice_index new c ≡ slice_index old c
  pub above : (c : ℕ) → slice_index new c ≤ slice_index old c + 2 * slice_index (volumes m) c

-- the moved bytes before and after a change that leads to a book, and to a map
pub record MovesNext (next : Next) (m : Map) (old new : List ℕ) : Type 0 where
  pub quiet : next.quiet ≡ true → (c : ℕ) → slice_index new c ≡ slice_index old c
  pub flush : next.quiet ≡ false → MovesFew next.boundary m old new

-- what the buffers have taken once a change is made
abbrev pub next_grid : (k : ℕ) (m : Map) (book : Book) (c : Change) → List (List ℕ)
next_grid k m book c = (next_book k m book c).book.grid

-- by how much each number of a row has risen
abbrev pub rise : List ℕ → List ℕ → List ℕ
rise old new = map (λ c. slice_index new c - slice_index old c) (below width)
