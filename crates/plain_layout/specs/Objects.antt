-- The object of a name, by records.
use Rattle.std.specs.Prelude.{ℕ, ◌+◌, List, map, Option, option_map}
use Rattle.std.specs.FinMap as fin
use Rattle.byte_ranges.specs.Ranges.{bytes_at}
use Rattle.slot_codec.specs.declared.codec.Record.{Record}
use Rattle.map_model.specs.Maps.{name_cmp}
use Rattle.table_rules.specs.Tables.{map_of}

-- the bytes at a place and of a size, where there are such
abbrev pub cut : ℕ → List ℕ → Option (ℕ × ℕ) → Option (List ℕ)
cut base file spot = option_map (λ s. bytes_at file (base + s.0) s.1) spot

-- the object of a name in the map that the records give
abbrev pub object_of : ℕ → List ℕ → List Record → List ℕ → Option (List ℕ)
object_of base file rs name = fin.get (map_of base file rs) name

-- the place and size of a name's object, by records
abbrev pub spot_in : List Record → List ℕ → Option (ℕ × ℕ)
spot_in rs name = fin.find name_cmp name (map (λ r. (r.name, (r.place, r.size))) rs)
