-- What `load` does to a file: how it ends, what it leaves, and what a crash leaves meanwhile.
use Rattle.std.specs.Prelude.{◌≡◌, ◌⊎◌, ℕ, ◌+◌, ◌<◌, ◌≤◌, ◌==◌, ◌||◌, Bool, true, List, [], length, Result, IsTrue}
use Rattle.std.specs.FinMap as fin
use Rattle.disk_face.specs.Counts.{IsCalm, Rose, counted}
use Rattle.disk_face.specs.Devices.{Devices}
use Rattle.disk_face.specs.Frames.{Untouched}
use Rattle.disk_face.specs.Moments.{Leaves, Rests}
use Rattle.disk_face.specs.States.{State}
use Rattle.disk_face.specs.Streams.{SourceState}
use Rattle.size_class.specs.declared.TheConstants.{CLASSES, SIZE_MAX}
use Rattle.map_model.specs.Maps.{Map}
use Rattle.dump_stream.specs.Dumps.{IsDumpOf}
use Rattle.dump_stream.specs.Placing.{laid_book}
use Rattle.load_stream.specs.Loaded.{IsEmptyOrDump, IsLoadImage, load_calls}
use Rattle.load_stream.specs.Saved.{OpensFor}
use Rattle.command_face.specs.Layers.{HasCauses}
use Rattle.command_face.specs.Outcomes.{PutsLine, PutsOut, status_at}
use Rattle.command_face.specs.declared.status.TheConstants.{DISK_FAILED, DONE, FAULTY_REQUEST, NOT_EMPTY, NO_MEMORY, SINK_FAILED, SOURCE_FAILED, TOO_MANY_NAMES}
use Rattle.command_face.specs.declared.stop.StopReason.{StopReason}
use Rattle.load_command.specs.Ends.{IsBegunAt, IsDone, IsJudged, LeavesAsItWas, LeavesFile, read_of, reply_of}

-- ---- what is promised of each file and input

-- The input was read to its end and is the dump of a map, for whose names there is room. The file opens to
-- that map with its objects laid out at once and nothing in buffers, made for this divisor and so many names,
-- and so does each image that a crash leaves now. Just the calls of the load were made.
pub record HasLoaded (k names : ℕ) (input left : List ℕ) (old new : State) : Type 0 where
  pub m : Map
  pub dump : IsDumpOf CLASSES SIZE_MAX m input
  pub few : fin.len m ≤ names
  pub ended : left ≡ []
  pub opens : IsTrue old.tells → OpensFor k names new.file m (laid_book m)
  pub images : IsTrue old.tells → (image : List ℕ) → new.may_leave image
      → OpensFor k names image m (laid_book m)
  pub calls : new.turn ≡ counted old.turn (load_calls m)

-- What a load of a file does, with this divisor of its buffers and room for so many names. The length of the
-- file decides first, and then the input; the end says of both what is so. A file of length 0 is then what
-- the end says, and past the ten calls of its format a store. Where it rested, each image left since is no
-- store, or opens to the empty map or to the map of the dump. A dump for which there is room is loaded where
-- no device failed, but for want of memory.
pub record LoadPromise (k names status : ℕ) (old new : Devices) (from rest : SourceState) : Type 0 where
  pub end : Result (Unit {0}) StopReason
  pub same_status : status ≡ status_at end
  pub begun : IsTrue old.disk.tells → IsBegunAt (length old.disk.file) end
  pub judged : IsTrue from.tells → IsJudged names from.left end
  pub puts : IsTrue old.sink.tells → PutsOut (reply_of end) end old.sink.given new.sink.given
      (Rose old.sink.faults new.sink.faults)
  pub untouched : LeavesAsItWas end → Untouched old.disk new.disk
  pub file : IsTrue old.disk.tells → length old.disk.file ≡ 0
      → LeavesFile k names (read_of from rest) new.disk.file end
  pub past : IsTrue old.disk.tells → length old.disk.file ≡ 0 → old.disk.turn + 10 < new.disk.turn
      → IsEmptyOrDump k names (read_of from rest) new.disk.file
  pub crash : IsTrue old.disk.tells → length old.disk.file ≡ 0 → Rests old.disk
      → Leaves old.disk new.disk (IsLoadImage k names (read_of from rest))
  pub loaded : IsTrue from.tells → IsDone end
      → HasLoaded k names from.left rest.left old.disk new.disk
  pub due : IsTrue old.disk.tells → IsTrue from.tells → length old.disk.file ≡ 0 → (m : Map)
      → IsDumpOf CLASSES SIZE_MAX m from.left → fin.len m ≤ names
      → IsCalm old.disk.faults new.disk.faults → IsCalm from.faults rest.faults
      → IsCalm old.sink.faults new.sink.faults → (status ≡ DONE) ⊎ (status ≡ NO_MEMORY)

-- ---- whatever is told

-- the statuses of a load
abbrev pub is_loading : ℕ → Bool
is_loading status = (status == DONE) || (status == FAULTY_REQUEST) || (status == NOT_EMPTY)
    || (status == DISK_FAILED) || (status == SOURCE_FAILED) || (status == SINK_FAILED)
    || (status == NO_MEMORY) || (status == TOO_MANY_NAMES)

-- What a load does whatever the devices tell. A file that has bytes, or of which the names or the memory
-- aren't there, stays as it was. But where it is done, or the sink failed, the fault line alone is put.
pub record LoadAlways (status : ℕ) (old new : Devices) : Type 0 where
  pub known : is_loading status ≡ true
  pub causes : HasCauses old.disk new.disk old.sink new.sink (status ≡ DISK_FAILED) (status ≡ SINK_FAILED)
      (status ≡ DONE)
  pub no_turn_back : old.disk.turn ≤ new.disk.turn
  pub told : new.disk.tells ≡ old.disk.tells
  pub images_told : new.disk.tells_images ≡ old.disk.tells_images
  pub untouched : (status ≡ NOT_EMPTY) ⊎ (status ≡ NO_MEMORY) ⊎ (status ≡ TOO_MANY_NAMES)
      → Untouched old.disk new.disk
  pub line_alone : IsTrue old.sink.tells
      → (status ≡ DONE) ⊎ (status ≡ SINK_FAILED) ⊎ PutsLine status old.sink new.sink

-- What it does to its input. Its count of faults never falls; that it failed is told only where the count
-- rose, and else no call of it failed. Of a file that has bytes it isn't read.
pub record LoadReads (status : ℕ) (from rest : SourceState) (same_input : Type 0) : Type 0 where
  pub later : from.faults ≤ rest.faults
  pub rose : status ≡ SOURCE_FAILED → Rose from.faults rest.faults
  pub calm : (status ≡ SOURCE_FAILED → ⊥) → rest.faults ≡ from.faults
  pub told : rest.tells ≡ from.tells
  pub unread : status ≡ NOT_EMPTY → same_input
