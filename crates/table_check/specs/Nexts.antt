-- Objects in the order of their places, each beside the next one.
use Rattle.std.specs.Prelude.{◌≡◌, ℕ, ◌+◌, ◌<◌, ◌≤◌, List, Some, slice_get}
use Rattle.extent_table.specs.declared.spot.Spot.{Spot}
use Rattle.extent_table.specs.Extents.{Spots}
use Rattle.extent_table.specs.Places.{by_place}

-- the object of a rank by place, counted from 0 among those of at least one byte, stands at this spot
abbrev pub StandsAtRank : Spots → ℕ → Spot → Type 0
StandsAtRank spots n s = (name : List ℕ) × (slice_get (by_place spots) n ≡ Some (name, s))

-- of the first n of them each ends where the next one begins, or before
abbrev pub EndBeforeNext : Spots → ℕ → Type 0
EndBeforeNext spots n = (p : ℕ) (a b : Spot) → p + 1 < n → StandsAtRank spots p a
    → StandsAtRank spots (p + 1) b → a.place + a.size ≤ b.place
