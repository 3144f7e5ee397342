-- A table that was read, whose rules weren't tried: what holds of it, and where it comes from. The slots of its
-- file have logs or have none.
use Rattle.std.specs.Prelude.{◌≡◌, ℕ, ◌-◌, ◌<◌, ◌≤◌, Bool, false, List, Ok, IsTrue, length, vec_capacity}
use Rattle.std.specs.FinMap as fin
use Rattle.slot_codec.specs.Choice as choice
use Rattle.slot_codec.specs.Logs.{table_in}
use Rattle.slot_codec.specs.Reading.{all_in_range, is_version_in, worn_from}
use Rattle.slot_codec.specs.Readable.{IsSuperBlockIn}
use Rattle.slot_codec.specs.Spelling.{cap, head_len}
use Rattle.slot_codec.specs.declared.codec.Header.{Header}
use Rattle.slot_pair.specs.Finding.{chosen_of, in_use_of}
use Rattle.slot_pair.specs.declared.find.Found.{Found}
use Rattle.size_class.specs.declared.TheConstants.{SIZE_MAX}
use Rattle.segment_layout.specs.Layouts.{caps_of, divisor_of, grid_of}
use Rattle.segment_layout.specs.declared.layout.Layout.{Layout}
use Rattle.table_rules.specs.Rules.{IsValid}
use Rattle.extent_table.specs.Extents.{Extents, IsTable, Spots, digests_seen, records_of}
use Rattle.placement_model.specs.Laid.{laid}
use Rattle.reopen.specs.declared.table.TableRead.{TableRead}

-- a slot in use was found, in a file that has its table, if the disk tells
pub record IsSlotFound (logged : Bool) (found : Found) : Type 0 where
  pub block : IsSuperBlockIn logged found.block
  pub slot : found.slot ≤ 1

-- The numbers of a slot and its header are in range.
pub record IsFound (logged : Bool) (found : Found) (header : Header) : Type 0 where
  pub slot : IsSlotFound logged found
  pub fresh : header.sequence < worn_from header.kind
  pub version : IsTrue (is_version_in logged header.version)
  pub count : header.count ≤ cap found.block.names header.version
  pub ranges : IsTrue (all_in_range header)

-- The header is that of the slot in use, in a file that is as long as it must be.
pub record IsChosenIn (logged : Bool) (file : List ℕ) (found : Found) (header : Header) : Type 0 where
  pub chosen : choice.chosen_in logged file ≡ Ok (chosen_of found header)
  pub long : head_len found.block.names ≤ length file

-- the table that was read from a slot: its header, its records in order, and their digests but in version 1
abbrev pub table_there : Found → Header → Extents → choice.SlotTable
table_there found header e = record {
  chosen = chosen_of found header;
  records = records_of e.now;
  digests = digests_seen header.version e.digests;
}

-- As many records as the header says were set in a table with room for all names, and kept. From now on as
-- many names may be live as a table of that version has records.
pub record IsTableRead (logged : Bool) (r : TableRead) : Type 0 where
  pub is_found : IsFound logged r.found r.header.value
  pub same_sequence : r.found.sequence ≡ r.header.value.sequence
  pub is_table : IsTable r.table
  pub count : fin.len r.table.now ≡ r.header.value.count
  pub kept : r.table.kept ≡ r.table.now
  pub kept_digests : r.table.kept_digests ≡ r.table.digests
  pub names : r.table.names ≡ r.found.block.names
  pub cap : r.table.cap ≡ cap r.found.block.names r.header.value.version
  pub room : r.found.block.names ≤ vec_capacity r.order

-- It is a file's table, and the data part is what the file has behind its head. The slot in use is that of a
-- file whose slots have no logs.
pub record IsReadFrom (logged : Bool) (file : List ℕ) (r : TableRead) : Type 0 where
  pub slot : logged ≡ false → choice.slot_in_use file ≡ Ok (in_use_of r.found)
  pub table : table_in logged file ≡ Ok (table_there r.found r.header.value r.table)
  pub behind : r.data_len ≡ length file - head_len r.found.block.names

-- A table keeps the rules of its header's kind, and this is the layout that its header has.
pub record IsCheckedLayout {C : ℕ} (k data_len : ℕ) (header : Header) (spots : Spots)
    (layout : Layout C) : Type 0
  where
    pub valid : IsValid (laid C SIZE_MAX k data_len header spots)
    pub divisor : divisor_of layout ≡ k
    pub caps : caps_of layout ≡ header.caps
    pub used : grid_of layout ≡ header.used
