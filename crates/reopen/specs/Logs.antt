-- A table in the making beside the log of a slot: what it is on its way through the log, what holds of it
-- behind each entry, and what no entry changes.
use Rattle.std.specs.Prelude.{◌≡◌, ℕ, ◌%◌, ◌^◌, ◌<◌, ◌≤◌, IsTrue}
use Rattle.std.specs.FinMap as fin
use Rattle.slot_codec.specs.Logs.{Logged}
use Rattle.slot_codec.specs.Reading.{all_in_range, worn_from}
use Rattle.slot_codec.specs.Rows.{Rows, rows_of}
use Rattle.slot_codec.specs.declared.codec.Header.{Header}
use Rattle.extent_table.specs.Extents.{Extents, IsTable, rolled}

-- the records of a table by their names, with their digests
abbrev pub rows_in : Extents → Rows
rows_in e = rows_of (rolled e.now e.digests)

-- a header and a table in the making, on their way through a log
abbrev pub logged_of : Header → Extents → Logged
logged_of header e = record { header = header; rows = rows_in e }

-- a gate of a log stands at the begin of a sector of 512 bytes, below the one at which the log must end
pub record IsPlace (at top : ℕ) : Type 0 where
  pub sector : at % 512 ≡ 0
  pub top_sector : top % 512 ≡ 0
  pub below : at < top
  pub far : top < 2 ^ 63

-- What holds before a log, and behind each entry: the table has room for the records of a slot, has as many
-- as its header says, and the header's numbers are in range.
pub record IsMaking (cap : ℕ) (header : Header) (load : Extents) : Type 0 where
  pub is_table : IsTable load
  pub room : cap ≤ load.names
  pub count : header.count ≡ fin.len load.now
  pub few : header.count ≤ cap
  pub fresh : header.sequence < worn_from header.kind
  pub ranges : IsTrue (all_in_range header)

-- a log changes neither how many names there is room for nor what was kept
pub record KeepsLoad (old new : Extents) : Type 0 where
  pub names : new.names ≡ old.names
  pub cap : new.cap ≡ old.cap
  pub kept : new.kept ≡ old.kept
  pub kept_digests : new.kept_digests ≡ old.kept_digests

-- nor the version of a table
pub record KeepsBase (before now : Header) (old new : Extents) : Type 0 where
  pub version : now.version ≡ before.version
  pub load : KeepsLoad old new
