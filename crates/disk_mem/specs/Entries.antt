-- The record that a disk in memory keeps, as calls.
use Rattle.std.specs.Prelude.{List, map, reverse}
use Rattle.disk_history.specs.Changes.{RecordedCall, Stamped}
use Rattle.disk_history.specs.Changes.RecordedCall.{Wrote, Sized, Synced}
use Rattle.disk_mem.specs.declared.record.Call.{Call}
use Rattle.disk_mem.specs.declared.record.Call.TheVariants.{Write, Resize, Sync}
use Rattle.disk_mem.specs.declared.record.Entry.{Entry}

-- what a recorded call asked
abbrev pub change_of : Call → RecordedCall
change_of (Write at bytes) = Wrote at bytes.items
change_of (Resize n) = Sized n
change_of Sync = Synced

-- a recorded call with its turn
abbrev pub stamp_of : Entry → Stamped
stamp_of entry = record { began = entry.began; change = change_of entry.call }

-- the calls of a record that keeps the oldest first
unfoldable pub newest_first : List Entry → List Stamped
newest_first entries = reverse (map stamp_of entries)
