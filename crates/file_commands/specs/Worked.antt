-- Two worked tables: of a small file at rest, and of one in the middle of a flush.
use Rattle.std.specs.Prelude.{ℕ, List, ◌∷◌, [], length, codes, slice_set, None}
use Rattle.size_class.specs.Classes.{zero_grid, zero_row}
use Rattle.slot_codec.specs.Choice as choice
use Rattle.slot_codec.specs.declared.codec.Kind.{Kind}
use Rattle.slot_codec.specs.declared.codec.Kind.TheVariants.{Settled, Moving}
use Rattle.slot_codec.specs.declared.codec.Record.{Record}
use Rattle.table_rules.specs.Tables.{no_record}

-- a table with k = 9 and room for 16 names: its kind, boundary, sequence, wall and slack, the capacity of
-- class 2, and its records
abbrev pub small_table : Kind → ℕ → ℕ → ℕ → ℕ → ℕ → List Record → choice.SlotTable
small_table kind boundary sequence wall slack cap records = record {
  chosen = record {
    block = record { k = 9; names = 16 };
    slot = 0;
    header = record {
      version = 1;
      kind = kind;
      boundary = boundary;
      sequence = sequence;
      count = length records;
      wall = wall;
      slack = slack;
      caps = slice_set zero_row 2 cap;
      used = zero_grid;
    };
  };
  records = records;
  digests = None;
}

-- `a` has 5 bytes, in the payload segment of class 2
abbrev pub hello : choice.SlotTable
hello = small_table Settled 0 1 0 0 5 (record no_record { name = codes "a"; size = 5 } ∷ [])

-- a flush stopped after three objects were moved up
abbrev pub moved_up : choice.SlotTable
moved_up = small_table Moving 2 3 239 112 0 (
    record no_record { name = codes "a"; place = 139; size = 100 } ∷
    record no_record { name = codes "b"; place = 239; size = 10 } ∷
    record no_record { name = codes "c"; place = 249; size = 5 } ∷
    []
    )
