-- What a flush needs of each suffix record to go on, sentence by sentence.
use Rattle.std.specs.Prelude.{◌≡◌, ◌⊎◌, ℕ, ◌+◌, ◌<◌, ◌≤◌, length, IsTrue}
use Rattle.size_class.specs.Classes.{class_of}
use Rattle.segment_layout.specs.Shapes.{start_of}
use Rattle.table_rules.specs.Tables.{TableInLayout, end_of_record, is_below_wall, is_suffix, nth, packed_end, table_boundary}

-- a suffix record begins at the wall or past it, or lies between where the suffix begins and the wall
abbrev pub StandsBesideWall : TableInLayout → ℕ → Type 0
StandsBesideWall t i = IsTrue (is_suffix t (nth t i))
    → (t.header.wall ≤ (nth t i).place)
    ⊎ ((start_of t.k t.header.caps (table_boundary t) ≤ (nth t i).place)
    × (end_of_record (nth t i) ≤ t.header.wall))

-- no suffix record that begins before one below the wall has a greater class
abbrev pub IsInOrder : TableInLayout → ℕ → Type 0
IsInOrder t i = IsTrue (is_below_wall t (nth t i)) → (h : ℕ) → h < length t.records
    → IsTrue (is_below_wall t (nth t h)) → (nth t h).place < (nth t i).place
    → class_of (nth t h).size ≤ class_of (nth t i).size

-- the free bytes between a suffix record and the wall, once those above it are packed, are none, or at least
-- the slack
abbrev pub HasWideGap : TableInLayout → ℕ → Type 0
HasWideGap t i = IsTrue (is_below_wall t (nth t i))
    → (packed_end t (nth t i) ≡ t.header.wall) ⊎ (packed_end t (nth t i) + t.header.slack ≤ t.header.wall)
