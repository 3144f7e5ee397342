-- What the steps of a load say of the devices, before its line is put.
use Rattle.std.specs.Prelude.{◌≡◌, ℕ, ◌+◌, ◌<◌, ◌≤◌, length, Result, Ok, Err, IsTrue}
use Rattle.disk_face.specs.Devices.{Devices}
use Rattle.disk_face.specs.Frames.{Untouched}
use Rattle.disk_face.specs.Moments.{Leaves, Rests}
use Rattle.disk_face.specs.Streams.{SourceState}
use Rattle.slot_pair.specs.Finding.{HasDiskCause}
use Rattle.load_stream.specs.Loaded.{IsEmptyOrDump, IsLoadImage}
use Rattle.load_stream.specs.declared.fault.LoadFault.{LoadFault}
use Rattle.load_stream.specs.declared.fault.LoadFault.TheVariants as why
use Rattle.command_face.specs.Layers.{HasCausesAt}
use Rattle.command_face.specs.declared.stop.StopReason.{StopReason}
use Rattle.command_face.specs.declared.stop.StopReason.TheVariants as stop
use Rattle.load_command.specs.Ends.{IsBegunAt, IsDone, IsJudged, IsLoadReason, LeavesAsItWas, LeavesFile, PutsBefore, read_of}
use Rattle.load_command.specs.Loading.{HasLoaded}

-- why a dump wasn't loaded, as a reason to stop
abbrev pub reason_of : LoadFault → StopReason
reason_of (why.Line n) = stop.Line n
reason_of (why.TooMany n) = stop.TooManyNames n
reason_of why.NoMemory = stop.NoMemory
reason_of why.Disk = stop.Disk
reason_of why.Source = stop.Source

-- it stopped, if it did, for a reason of a load
abbrev pub EndsAsLoad : Result (Unit {0}) StopReason → Type 0
EndsAsLoad (Ok done) = Unit {0}
EndsAsLoad (Err reason) = IsLoadReason reason

-- A load that ended so, but for the line of its end.
pub record IsLoading (k names : ℕ) (old new : Devices) (from rest : SourceState) (same_input : Type 0)
    (end : Result (Unit {0}) StopReason) : Type 0 where
  pub only : EndsAsLoad end
  pub begun : IsTrue old.disk.tells → IsBegunAt (length old.disk.file) end
  pub judged : IsTrue from.tells → IsJudged names from.left end
  pub puts : IsTrue old.sink.tells → PutsBefore old.sink new.sink end
  pub untouched : LeavesAsItWas end → Untouched old.disk new.disk
  pub file : IsTrue old.disk.tells → length old.disk.file ≡ 0
      → LeavesFile k names (read_of from rest) new.disk.file end
  pub past : IsTrue old.disk.tells → length old.disk.file ≡ 0 → old.disk.turn + 10 < new.disk.turn
      → IsEmptyOrDump k names (read_of from rest) new.disk.file
  pub crash : IsTrue old.disk.tells → length old.disk.file ≡ 0 → Rests old.disk
      → Leaves old.disk new.disk (IsLoadImage k names (read_of from rest))
  pub loaded : IsTrue from.tells → IsDone end
      → HasLoaded k names from.left rest.left old.disk new.disk
  pub no_turn_back : old.disk.turn ≤ new.disk.turn
  pub told : new.disk.tells ≡ old.disk.tells
  pub images_told : new.disk.tells_images ≡ old.disk.tells_images
  pub causes : HasCausesAt old.disk new.disk old.sink new.sink end
  pub source : HasDiskCause stop.Source from.faults rest.faults end
  pub source_told : rest.tells ≡ from.tells
  pub unread : (n : ℕ) → end ≡ Err (stop.Taken n) → same_input
