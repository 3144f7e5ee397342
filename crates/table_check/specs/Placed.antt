-- The table of names under the numbers that it is checked against.
use Rattle.std.specs.Prelude.{ℕ, List, slice_index_or}
use Rattle.slot_codec.specs.declared.codec.Record.{Record}
use Rattle.table_rules.specs.Tables.{TableInLayout, no_record}
use Rattle.extent_table.specs.Extents.{Extents, records_of}
use Rattle.table_check.specs.declared.frame.Frame.{Frame}

-- records under these numbers
abbrev pub framed : Frame → List Record → TableInLayout
framed f records =
    record {
      classes = f.classes;
      size_max = f.size_max;
      k = f.k;
      data_len = f.data_len;
      header = f.header;
      records = records;
    }

abbrev pub placed : Extents → Frame → TableInLayout
placed e f = framed f (records_of e.now)

-- the record of a rank by name, counted from 0
abbrev pub ranked : Extents → ℕ → Record
ranked e i = slice_index_or (records_of e.now) i no_record
