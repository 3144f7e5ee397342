-- Where the table of a load has the objects of a dump.
use Rattle.std.specs.Prelude.{◌≡◌, ℕ, List, ◌∷◌, ◌++◌, Some, length, slice_get}
use Rattle.slot_codec.specs.declared.codec.Record.{Record}
use Rattle.map_model.specs.Weights.{Entry}
use Rattle.extent_table.specs.Extents.{record_of}
use Rattle.dump_stream.specs.Placing.{spot_after}

-- by these records each object stands behind the earlier ones of its class
abbrev pub StandInOrder : ℕ → List ℕ → List Entry → List Record → Type 0
StandInOrder k volumes es records = (before behind : List Entry) (e : Entry) → es ≡ before ++ e ∷ behind
    → slice_get records (length before) ≡ Some (record_of (e.0, spot_after k volumes before (length e.1)))
