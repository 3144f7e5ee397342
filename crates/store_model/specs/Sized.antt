-- A map whose objects have the sizes that spots say.
use Rattle.std.specs.Prelude.{◌≡◌, ℕ, List, length, Option, Some, None, option_map}
use Rattle.std.specs.FinMap as fin
use Rattle.map_model.specs.Maps.{Map}
use Rattle.extent_table.specs.declared.spot.Spot.{Spot}
use Rattle.extent_table.specs.Extents.{Spots}

-- A map has the same names as spots, and under each an object of the size that its spot says.
abbrev pub IsSizedBy : Map → Spots → Type 0
IsSizedBy m spots = (q : List ℕ) → option_map length (fin.get m q)
    ≡ option_map (λ (s : Spot). s.size) (fin.get spots q)

-- the size of a new object, or 0 where there is none
abbrev pub object_size : Option (List ℕ) → ℕ
object_size None = 0
object_size (Some object) = length object
