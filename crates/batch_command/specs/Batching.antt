-- What `batch` does to a file: what it answers, what it leaves, and what a crash leaves meanwhile.
use Rattle.std.specs.Prelude.{◌≡◌, ◌⊎◌, ℕ, ◌≤◌, ◌==◌, ◌||◌, Bool, true, drop, IsTrue}
use Rattle.disk_face.specs.Counts.{Rose}
use Rattle.disk_face.specs.Devices.{Devices}
use Rattle.disk_face.specs.Streams.{SourceState}
use Rattle.command_face.specs.declared.status.TheConstants.{DAMAGED_OBJECT, DISK_FAILED, DONE, FAULTY_REQUEST, NO_BATCH, NO_FILE, NO_MEMORY, NO_STORE, SINK_FAILED, SOURCE_FAILED, UNFIT, WORN}
use Rattle.served_file.specs.Always.{EndsOrPutsLine, ServesAlways}
use Rattle.batch_command.specs.Reading.{ComesToNone, HasJudged, LeavesFrom, most_read}

-- ---- statuses

-- the batch of the input was applied, but that its line may not have been put
abbrev pub has_applied : ℕ → Bool
has_applied status = (status == DONE) || (status == SINK_FAILED)

-- it wasn't, for what the file or the input has
abbrev pub has_refused : ℕ → Bool
has_refused status = (status == FAULTY_REQUEST) || (status == DAMAGED_OBJECT) || (status == WORN)
    || (status == NO_BATCH) || (status == UNFIT)

-- the statuses over a file that opens
abbrev pub is_batching : ℕ → Bool
is_batching status = has_applied status || has_refused status || (status == NO_FILE)
    || (status == DISK_FAILED) || (status == SOURCE_FAILED) || (status == NO_MEMORY)

-- ---- whatever is told

-- What `batch` does whatever the file and the devices tell. But where the input was applied the fault line
-- alone is put.
pub record BatchAlways (status : ℕ) (old new : Devices) : Type 0 where
  pub serves : ServesAlways is_batching status old new
  pub line_alone : IsTrue old.sink.tells → EndsOrPutsLine status old new

-- What it does to its input: it takes a front, of one byte more than a batch has at most, and all of that
-- where the input was judged. The input's own fault comes only where its count rose, and else no call of it
-- failed. Where there is no file, no store or no memory, or the batch that the file keeps is damaged or none,
-- the input stays as it was.
pub record BatchReads (status : ℕ) (from rest : SourceState) (same_input : Type 0) : Type 0 where
  pub later : from.faults ≤ rest.faults
  pub rose : status ≡ SOURCE_FAILED → Rose from.faults rest.faults
  pub calm : (status ≡ SOURCE_FAILED → ⊥) → rest.faults ≡ from.faults
  pub told : rest.tells ≡ from.tells
  pub front : IsTrue from.tells → LeavesFrom most_read from.left rest.left
  pub whole : IsTrue from.tells → HasJudged status → rest.left ≡ drop most_read from.left
  pub unread : ComesToNone status → same_input
