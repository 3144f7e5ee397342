-- What was read of an input that is to be a batch.
use Rattle.std.specs.Prelude.{◌≡◌, ◌⊎◌, ℕ, ◌+◌, ◌≤◌, List, take, drop, Result, IsTrue}
use Rattle.disk_face.specs.Counts.{Rose}
use Rattle.disk_face.specs.Streams.{SourceState}
use Rattle.size_class.specs.declared.TheConstants.{SIZE_MAX}
use Rattle.slot_pair.specs.Finding.{HasDiskCause}
use Rattle.command_face.specs.Outcomes.{status_at}
use Rattle.command_face.specs.declared.status.TheConstants.{DAMAGED_OBJECT, DONE, FAULTY_REQUEST, NO_BATCH, NO_FILE, NO_MEMORY, NO_STORE, SINK_FAILED}
use Rattle.command_face.specs.declared.stop.StopReason.{StopReason}
use Rattle.command_face.specs.declared.stop.StopReason.TheVariants as stop

-- so many bytes of an input are read at most: one more than a batch has
abbrev pub most_read : ℕ
most_read = SIZE_MAX + 1

-- the bytes of an input by which it is judged
abbrev pub text_of : List ℕ → List ℕ
text_of left = take most_read left

-- a front was read: so many bytes, or all that were left
pub record ReadsFront (most : ℕ) (left rest text : List ℕ) : Type 0 where
  pub read : text ≡ take most left
  pub others : rest ≡ drop most left

-- no more than so many bytes were taken
pub record LeavesFrom (most : ℕ) (left rest : List ℕ) : Type 0 where
  pub taken : ℕ
  pub few : taken ≤ most
  pub others : rest ≡ drop taken left

-- An input was read as this text.
pub record IsRead (from rest : SourceState) (text : List ℕ) : Type 0 where
  pub told : rest.tells ≡ from.tells
  pub calm : rest.faults ≡ from.faults
  pub front : IsTrue from.tells → ReadsFront most_read from.left rest.left text

-- It couldn't be read.
pub record IsUnread (from rest : SourceState) : Type 0 where
  pub told : rest.tells ≡ from.tells
  pub later : from.faults ≤ rest.faults
  pub rose : Rose from.faults rest.faults
  pub front : IsTrue from.tells → LeavesFrom most_read from.left rest.left

-- the statuses of a call that doesn't come to its input: no file, no store, no memory, and a batch that is
-- kept and is damaged or none
abbrev pub ComesToNone : ℕ → Type 0
ComesToNone status = (status ≡ NO_FILE) ⊎ (status ≡ NO_STORE) ⊎ (status ≡ NO_MEMORY)
    ⊎ (status ≡ DAMAGED_OBJECT) ⊎ (status ≡ NO_BATCH)

-- the statuses of a call that has judged its input: done, but that its line may not have been put; or a text
-- that is no batch
abbrev pub HasJudged : ℕ → Type 0
HasJudged status = (status ≡ DONE) ⊎ (status ≡ SINK_FAILED) ⊎ (status ≡ FAULTY_REQUEST)

-- What a command keeps of its input, by how it ended: at most so many bytes are taken, and all of them where
-- it has judged them; the input's own fault has its cause, and where the command doesn't come to it no call
-- is made of it.
pub record KeepsSource (from rest : SourceState) (same_input : Type 0) (end : Result (Unit {0}) StopReason)
    : Type 0 where
  pub cause : HasDiskCause stop.Source from.faults rest.faults end
  pub told : rest.tells ≡ from.tells
  pub front : IsTrue from.tells → LeavesFrom most_read from.left rest.left
  pub whole : IsTrue from.tells → HasJudged (status_at end) → rest.left ≡ drop most_read from.left
  pub unread : ComesToNone (status_at end) → same_input
