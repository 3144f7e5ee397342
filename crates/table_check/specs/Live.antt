-- The live bytes of a table's first records, by class.
use Rattle.std.specs.Prelude.{◌≡◌, ℕ, ◌<◌, ◌&&◌, Bool, List, length, filter, slice_index}
use Rattle.size_class.specs.Classes.{width, cell, row}
use Rattle.slot_codec.specs.declared.codec.Record.{Record}
use Rattle.extent_table.specs.declared.spot.Spot.{Spot}
use Rattle.table_rules.specs.Tables.{TableInLayout, is_of, lies_in_buffer, lies_in_payload, no_record, size_sum}

-- which records count for a class in its payload segment, and in buffer j
abbrev pub in_payload : TableInLayout → ℕ → Record → Bool
in_payload t c r = is_of c r && lies_in_payload t c r

abbrev pub in_buffer : TableInLayout → ℕ → ℕ → Record → Bool
in_buffer t j c r = is_of c r && lies_in_buffer t j r

-- a record of a spot, whatever its name
abbrev pub at_spot : Spot → Record
at_spot s = record no_record { place = s.place; size = s.size }

-- a grid has 32 rows of 32
abbrev pub IsFull : List (List ℕ) → Type 0
IsFull grid = (length grid ≡ width) × ((j : ℕ) → j < width → length (row grid j) ≡ width)

-- The live bytes of these records.
pub record IsLive (t : TableInLayout) (records : List Record) (payload : List ℕ) (buffers : List (List ℕ))
    : Type 0 where
  pub long : length payload ≡ width
  pub full : IsFull buffers
  pub settled : (c : ℕ) → c < width → slice_index payload c ≡ size_sum (filter (in_payload t c) records)
  pub buffered : (j c : ℕ) → j < width → c < width
      → cell buffers j c ≡ size_sum (filter (in_buffer t j c) records)
