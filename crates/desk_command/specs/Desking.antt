-- What `desk` does whatever its file and its devices tell.
use Rattle.std.specs.Prelude.{◌≡◌, ◌⊎◌, ℕ, ◌≤◌, ◌==◌, ◌||◌, Bool, true, Result, IsTrue}
use Rattle.disk_face.specs.Counts.{Rose}
use Rattle.disk_face.specs.Devices.{Devices}
use Rattle.disk_face.specs.Streams.{SourceState}
use Rattle.slot_pair.specs.Finding.{HasDiskCause}
use Rattle.command_face.specs.Outcomes.{PutsLine, status_at}
use Rattle.command_face.specs.declared.status.TheConstants.{DISK_FAILED, DONE, FAULTY_REQUEST, NO_FILE, NO_MEMORY, NO_STORE, SINK_FAILED, SOURCE_FAILED, TOO_MANY_REQUESTS}
use Rattle.command_face.specs.declared.stop.StopReason.{StopReason}
use Rattle.command_face.specs.declared.stop.StopReason.TheVariants as stop
use Rattle.served_file.specs.Always.{ServesAlways}

-- ---- statuses

-- the statuses over a file that opens
abbrev pub is_desking : ℕ → Bool
is_desking status = (status == DONE) || (status == FAULTY_REQUEST) || (status == NO_FILE)
    || (status == DISK_FAILED) || (status == SOURCE_FAILED) || (status == SINK_FAILED)
    || (status == NO_MEMORY) || (status == TOO_MANY_REQUESTS)

-- the statuses of a call that doesn't come to its input, but for a disk that failed before: no file, no
-- store, no memory
abbrev pub ComesToNone : ℕ → Type 0
ComesToNone status = (status ≡ NO_FILE) ⊎ (status ≡ NO_STORE) ⊎ (status ≡ NO_MEMORY)

-- ---- whatever is told

-- What `desk` does whatever the file and the devices tell. Where no event was read the fault line alone is
-- put.
pub record DeskAlways (status : ℕ) (old new : Devices) : Type 0 where
  pub serves : ServesAlways is_desking status old new
  pub line_alone : IsTrue old.sink.tells → ComesToNone status → PutsLine status old.sink new.sink

-- What it does to its input: the input's own fault comes only where its count rose, and else no call of it
-- failed. Where there is no file, no store or no memory, the input stays as it was.
pub record DeskReads (status : ℕ) (from rest : SourceState) (same_input : Type 0) : Type 0 where
  pub later : from.faults ≤ rest.faults
  pub rose : status ≡ SOURCE_FAILED → Rose from.faults rest.faults
  pub calm : (status ≡ SOURCE_FAILED → ⊥) → rest.faults ≡ from.faults
  pub told : rest.tells ≡ from.tells
  pub unread : ComesToNone status → same_input

-- the same of a command that ends so
pub record KeepsSource (from rest : SourceState) (same_input : Type 0) (end : Result (Unit {0}) StopReason)
    : Type 0 where
  pub cause : HasDiskCause stop.Source from.faults rest.faults end
  pub told : rest.tells ≡ from.tells
  pub unread : ComesToNone (status_at end) → same_input
