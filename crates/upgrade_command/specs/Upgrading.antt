-- What `upgrade` does to a file that opens: what it answers, what it leaves, and what a crash leaves
-- meanwhile.
use Rattle.std.specs.Prelude.{◌≡◌, ◌⊎◌, ℕ, ◌+◌, ◌<◌, ◌≤◌, ◌==◌, ◌||◌, nat_le, nat_lt, Bool, true, if◌then◌else◌, List, codes, length, Option, Some, None, Result, Ok, Err, IsTrue}
use Rattle.std.specs.FinMap as fin
use Rattle.disk_face.specs.Counts.{IsCalm, counted, last}
use Rattle.disk_face.specs.Devices.{Devices}
use Rattle.disk_face.specs.Moments.{LeftOnly}
use Rattle.size_class.specs.declared.TheConstants.{CLASSES, SIZE_MAX}
use Rattle.slot_codec.specs.Choice as choice
use Rattle.slot_codec.specs.Spelling.{cap}
use Rattle.slot_codec.specs.declared.codec.Kind.TheVariants as kind
use Rattle.slot_pair.specs.Saves.{save_calls}
use Rattle.map_model.specs.Maps.{Map}
use Rattle.segment_layout.specs.Books.{Book, book_end, digests_of, version_of, with_digests}
use Rattle.table_rules.specs.Opening.{OpensBy}
use Rattle.table_rules.specs.Sequences.{HasSequenceUpTo}
use Rattle.store_model.specs.Opened.{ContinuesFrom, LeavesRoom, RestsOnFound, found_base, state_at}
use Rattle.store_model.specs.States.{State, refused_from}
use Rattle.command_face.specs.Outcomes.{Ends}
use Rattle.command_face.specs.declared.status.TheConstants.{DISK_FAILED, DONE, NO_FILE, NO_MEMORY, NO_STORE, SINK_FAILED, TOO_MANY_NAMES, WORN}
use Rattle.command_face.specs.declared.stop.StopReason.{StopReason}
use Rattle.command_face.specs.declared.stop.StopReason.TheVariants as stop
use Rattle.served_file.specs.Served.{Found, IsNextStart, OpensTo, Starts, found_by, most_left}
use Rattle.served_file.specs.Always.{EndsOrPutsLine, ServesAlways}

-- ---- what there is to do

-- what is put once it is done
abbrev pub upgraded_line : List ℕ
upgraded_line = codes "upgraded\n"

-- The answer where nothing is done, if it is so: of a state of version 2, of one with more names than a table
-- of version 2 has records, and of one whose sequence leaves no save.
abbrev pub idle_end : ℕ → State → Option (Result (List ℕ) StopReason)
idle_end names s =
    if version_of s.book == 2 then Some (Ok upgraded_line)
    else if nat_lt (cap names 2) (fin.len s.map) then Some (Err (stop.TooManyNames (fin.len s.map)))
    else if nat_le refused_from s.sequence then Some (Err stop.Worn)
    else None

-- what is answered, by that
abbrev pub end_by : Option (Result (List ℕ) StopReason) → Result (List ℕ) StopReason
end_by None = Ok upgraded_line
end_by (Some answer) = answer

abbrev pub upgrade_end : ℕ → State → Result (List ℕ) StopReason
upgrade_end names s = end_by (idle_end names s)

-- the state once each name has the digest of its object, by one save
abbrev pub digested : State → State
digested s = state_at s.map (with_digests (Some (digests_of s.map)) s.book) (s.sequence + 1)

-- the state that is left: where nothing is done, as it was
abbrev pub state_by : State → Option (Result (List ℕ) StopReason) → State
state_by s None = digested s
state_by s (Some answer) = s

abbrev pub upgraded : ℕ → State → State
upgraded names s = state_by s (idle_end names s)

-- how many changing calls that takes
abbrev pub calls_by : State → Option (Result (List ℕ) StopReason) → ℕ
calls_by s None = save_calls (fin.len s.map)
calls_by s (Some answer) = 0

abbrev pub upgrade_calls : ℕ → State → ℕ
upgrade_calls names s = calls_by s (idle_end names s)

-- ---- statuses

-- the file is there, and its store came to an answer
abbrev pub has_answered : ℕ → Bool
has_answered status = (status == DONE) || (status == SINK_FAILED) || (status == TOO_MANY_NAMES)
    || (status == WORN)

-- the statuses over a file that opens
abbrev pub is_upgrading : ℕ → Bool
is_upgrading status = has_answered status || (status == NO_FILE) || (status == DISK_FAILED)
    || (status == NO_MEMORY)

-- the state that is left by a call that ends so, where no call of the disk failed
abbrev pub left_by : ℕ → ℕ → State → State
left_by status names s = if has_answered status then upgraded names s else s

-- ---- the whole

-- The store came to its answer: the file opens to what is left, and so does each image that a crash leaves
-- now, where the disk rested. Over a settled file that ended with its layout just the calls of the upgrade
-- were made.
pub record HasUpgraded (found : Found) (start : State) (old new : Devices) : Type 0 where
  pub continues : ContinuesFrom found.table.chosen.header.kind found.table.chosen.header.sequence
      start.sequence
  pub opens : OpensTo (upgraded found.block.names start) new.disk.file
  pub safe : RestsOnFound found.table old.disk → (image : List ℕ) → new.disk.may_leave image
      → OpensTo (upgraded found.block.names start) image
  pub calls : found.table.chosen.header.kind ≡ kind.Settled
      → length old.disk.file ≡ found_base found.table + book_end found.table.chosen.block.k found.b
      → new.disk.turn ≡ counted old.disk.turn (upgrade_calls found.block.names start)

-- What an upgrade of a file does that has a superblock, and opens by a table to a map and a book. It ends by
-- the one answer that there is. The content opens to the start or to what is left, and so does, at any
-- moment, what a crash leaves, where the disk rested on that table, below the last turn and with room for the
-- saves of an opening; and to the start alone where the store wasn't begun with. Where no call of the disk
-- failed the next call may begin.
pub record UpgradeHolds (found : Found) (status : ℕ) (old new : Devices) : Type 0 where
  pub start : State
  pub starts : Starts found.table found.m found.b start
  pub ends : Ends (λ answer. answer ≡ upgrade_end found.block.names start) status old.sink new.sink
  pub done : IsTrue (has_answered status) → HasUpgraded found start old new
  pub content : LeavesRoom found.table
      → OpensTo start new.disk.file ⊎ OpensTo (upgraded found.block.names start) new.disk.file
  pub crash : LeavesRoom found.table → RestsOnFound found.table old.disk → new.disk.turn < last
      → LeftOnly new.disk old.disk.turn
      (λ image. OpensTo start image ⊎ OpensTo (upgraded found.block.names start) image)
  pub unbegun : (status ≡ NO_FILE) ⊎ (status ≡ NO_MEMORY)
      → LeavesRoom found.table → RestsOnFound found.table old.disk → new.disk.turn < last
      → LeftOnly new.disk old.disk.turn (OpensTo start)
  pub numbered : LeavesRoom found.table → RestsOnFound found.table old.disk → new.disk.turn < last
      → LeftOnly new.disk old.disk.turn (HasSequenceUpTo (most_left found.block.k found.table))
  pub next_start : IsCalm old.disk.faults new.disk.faults
      → IsNextStart found.table (left_by status found.block.names start)
      (left_by status found.block.names start).sequence old.disk new.disk
  pub reach : (left_by status found.block.names start).sequence ≤ most_left found.block.k found.table

-- So it is of every file that opens.
abbrev pub UpgradePromise : ℕ → Devices → Devices → Type 0
UpgradePromise status old new = (t : choice.SlotTable) (m : Map) (b : Book)
    → OpensBy CLASSES SIZE_MAX t old.disk.file m b
    → UpgradeHolds (found_by t m b) status old new

-- What an upgrade does whatever the file and the devices tell. But where it is done, or the sink failed, the
-- fault line alone is put.
pub record UpgradeAlways (status : ℕ) (old new : Devices) : Type 0 where
  pub serves : ServesAlways is_upgrading status old new
  pub line_alone : IsTrue old.sink.tells → EndsOrPutsLine status old new
