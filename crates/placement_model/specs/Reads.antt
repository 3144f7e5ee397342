-- What a file gives where the objects of a state stand.
use Rattle.std.specs.Prelude.{◌≡◌, ◌⊎◌, ℕ, ◌+◌, ◌≤◌, List, length, Some, IsSome}
use Rattle.std.specs.FinMap as fin
use Rattle.byte_ranges.specs.Ranges.{bytes_at}
use Rattle.slot_codec.specs.Names.{IsName}
use Rattle.map_model.specs.Maps.{Map}
use Rattle.table_rules.specs.Tables.{map_of}
use Rattle.extent_table.specs.declared.spot.Spot.{Spot}
use Rattle.extent_table.specs.Extents.{Spots, records_of}

-- the bytes at a spot
abbrev pub object_at : ℕ → List ℕ → Spot → List ℕ
object_at base file s = bytes_at file (base + s.place) s.size

-- the map that a file gives at these spots
abbrev pub read_at : ℕ → List ℕ → Spots → Map
read_at base file spots = map_of base file (records_of spots)

-- each name is one that the file can hold
abbrev pub AreNamed : Spots → Type 0
AreNamed spots = (name : List ℕ) → IsSome (fin.get spots name) → IsName name

-- a spot ends before n bytes at a place, or begins behind them
abbrev pub LiesApart : ℕ → ℕ → Spot → Type 0
LiesApart place n s = (s.place + s.size ≤ place) ⊎ (place + n ≤ s.place)

-- each object ends within the file
abbrev pub EndWithin : ℕ → List ℕ → Spots → Type 0
EndWithin base file spots = (name : List ℕ) (s : Spot) → fin.get spots name ≡ Some s
    → base + s.place + s.size ≤ length file

-- no object has a byte in common with n bytes at a place
abbrev pub AllLieApart : ℕ → ℕ → Spots → Type 0
AllLieApart place n spots = (name : List ℕ) (s : Spot) → fin.get spots name ≡ Some s → LiesApart place n s

-- an entry of a map to spots, with the bytes that a file gives there
abbrev pub read_entry : ℕ → List ℕ → List ℕ × Spot → List ℕ × List ℕ
read_entry base file e = (e.0, object_at base file e.1)
