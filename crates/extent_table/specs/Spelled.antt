-- What the fields of a name say: where it is said to be here, its object stands at the numbers that are
-- spelled as a record has them.
use Rattle.std.specs.Prelude.{ℕ, if◌then◌else◌, List, Some, None}
use Rattle.std.specs.Int.{w64, from_le_bytes}
use Rattle.extent_table.specs.declared.spot.Spot.{Spot}
use Rattle.extent_table.specs.declared.standing.Standing.TheInside.{Inside}
use Rattle.extent_table.specs.Entries.{Standing}

-- the spot that is spelled by eight bytes and eight
abbrev pub spelled_spot : List ℕ → List ℕ → Spot
spelled_spot place size = record { place = from_le_bytes w64 place; size = from_le_bytes w64 size }

abbrev pub standing_in : Inside → Standing
standing_in s = record {
  name = s.name;
  now = if s.is_here then Some (spelled_spot s.place s.size) else None;
}
