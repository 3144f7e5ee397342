-- What a change charges, each item tried whether or not the other found room.
use Rattle.std.specs.Prelude.{ℕ, ◌++◌, List, Option, Some, None}
use Rattle.segment_layout.specs.Books.{Charged, charge_all, some_size}
use Rattle.extent_table.specs.declared.spot.Spot.{Spot}
use Rattle.placement_model.specs.Quiet.{gone_items}

-- what the old object of a name leaves once it was tried; it charges nothing where it stands in a buffer
abbrev pub gone_charged : ℕ → List ℕ → List (List ℕ) → Option Spot → Charged
gone_charged k caps grid old = charge_all k caps grid (gone_items k caps old)

-- the grid then
abbrev pub between : ℕ → List ℕ → List (List ℕ) → Option Spot → List (List ℕ)
between k caps grid old = (gone_charged k caps grid old).grid

-- what a new object of a size leaves once it was tried; an empty one charges nothing
abbrev pub new_charged : ℕ → List ℕ → List (List ℕ) → ℕ → Charged
new_charged k caps grid size = charge_all k caps grid (some_size size)

-- what both leave, one tried after the other
abbrev pub charged_by : ℕ → List ℕ → List (List ℕ) → Option Spot → ℕ → Charged
charged_by k caps grid old size = charge_all k caps grid (gone_items k caps old ++ some_size size)

-- the size of an object, or 0 where there is none
abbrev pub size_at : Option Spot → ℕ
size_at None = 0
size_at (Some s) = s.size
