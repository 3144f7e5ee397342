-- How a session over a file went, step by step.
use Rattle.std.specs.Prelude.{◌≡◌, ◌⊎◌, ◌↔◌, ℕ, ◌≤◌, List, false, IsTrue, Result, Ok, Err}
use Rattle.disk_face.specs.Counts.{Rose, counted}
use Rattle.disk_face.specs.Frames.{AfterMount, Untouched}
use Rattle.disk_face.specs.declared.bay.Mounted.TheVariants.{There}
use Rattle.disk_face.specs.States.{State}
use Rattle.disk_face.specs.Streams.{SourceState}
use Rattle.size_class.specs.declared.TheConstants.{CLASSES}
use Rattle.store_model.specs.Connection.{StoreValue}
use Rattle.store_model.specs.Opened.{IsOpening}
use Rattle.store_model.specs.Stores.{IsStore}
use Rattle.reopen.specs.declared.fault.OpenFault.{OpenFault}
use Rattle.ask_session.specs.Outside.{Held, Seen, held}
use Rattle.ask_session.specs.Sittings.{Sitting, new_sitting}
use Rattle.ask_session.specs.Runs.{EndsRun, budget}
use Rattle.ask_text.specs.declared.ends.End.{End}
use Rattle.ask_text.specs.declared.ends.End.TheVariants as ends
use Rattle.disk_face.specs.Devices.{Devices}
use Rattle.command_face.specs.Mounting.{IsNotThere, mounted}
use Rattle.command_face.specs.Outcomes.{PutsLine, status_at}
use Rattle.run_command.specs.Headline.{HasMounted, IsKeptTurn}
use Rattle.command_face.specs.Refusing.{stop_of}
use Rattle.served_file.specs.Unserved.{NeverServed}
use Rattle.command_face.specs.declared.stop.StopReason.{StopReason}
use Rattle.command_face.specs.declared.stop.StopReason.TheVariants as stop
use Rattle.run_command.specs.declared.run.SessionEnd.{SessionEnd}
use Rattle.command_face.specs.declared.outcome.Outcome.{Outcome}
use Rattle.command_face.specs.declared.status.TheConstants.{DISK_FAILED, DONE, NO_FILE, NO_MEMORY, NO_STORE, SINK_FAILED, SOURCE_FAILED, TOO_MANY_REQUESTS}
use Rattle.served_file.specs.Ends.{end_of}

-- the end of a session, and its three numbers
abbrev pub ended_as : End → Sitting → SessionEnd
ended_as end s = record {
  end = end_of end s.done;
  done = s.done;
  kept_done = s.kept_done;
  kept_turn = s.kept_turn;
}

-- no session was begun
abbrev pub unserved : StopReason → ℕ → SessionEnd
unserved why turn = record { end = Err why; done = 0; kept_done = 0; kept_turn = turn }

-- the file wasn't opened
pub record IsUnopened (before now : State) (e : SessionEnd) : Type 0 where
  pub fault : OpenFault
  pub opening : IsOpening CLASSES before now (Err fault)
  pub ended : e ≡ unserved (stop_of fault) now.turn

-- it was opened, and there was no memory for a session
pub record IsUnbegun (before now : State) (e : SessionEnd) : Type 0 where
  pub store : StoreValue
  pub opening : IsOpening CLASSES before now (Ok store)
  pub ended : e ≡ unserved stop.NoMemory now.turn

-- It was opened, at `mid`, and a session of its store ran to its end.
pub record HasSession {D I O : Type 0} (seen : Seen D I O) (before now : Held D I O) (e : SessionEnd)
    : Type 0 where
  pub store : StoreValue
  pub mid : D
  pub new : Sitting
  pub end : End
  pub opening : IsOpening CLASSES (seen.disk before.disk) (seen.disk mid) (Ok store)
  pub ran : EndsRun seen CLASSES (new_sitting store (seen.disk mid).turn) new
      (held mid before.source before.sink) now end
  pub sound : new.store.is_broken ≡ false → IsStore CLASSES new.store
  pub ended : e ≡ ended_as end new

-- A session over an open file went so; where none was begun, no stream was called.
abbrev pub OpenRunSteps : {D I O : Type 0} → Seen D I O → Held D I O → Held D I O → SessionEnd → Type 0
OpenRunSteps seen before now e =
    ((IsUnopened (seen.disk before.disk) (seen.disk now.disk) e
    ⊎ IsUnbegun (seen.disk before.disk) (seen.disk now.disk) e)
    × (now.source ≡ before.source) × (now.sink ≡ before.sink))
    ⊎ HasSession seen before now e

-- The file wasn't mounted.
pub record IsUnmounted (file : List ℕ) (before now : State) (e : SessionEnd) : Type 0 where
  pub mount : AfterMount before now
  pub later : before.faults ≤ now.faults
  pub which : IsNotThere file before now (e ≡ unserved stop.Disk 0) (e ≡ unserved stop.NoFile 0)

-- It was mounted, at `first`, and a session over it went so.
pub record RunsMounted {D I O : Type 0} (seen : Seen D I O) (file : List ℕ) (before now : Held D I O)
    (e : SessionEnd) : Type 0 where
  pub first : D
  pub mount : AfterMount (seen.disk before.disk) (seen.disk first)
  pub there : (seen.disk first).last_mount ≡ mounted file false There
  pub calm : (seen.disk first).faults ≡ (seen.disk before.disk).faults
  pub steps : OpenRunSteps seen (held first before.source before.sink) now e

-- A command that serves requests went so; where its file wasn't mounted, no stream was called.
abbrev pub RunSteps : {D I O : Type 0} → Seen D I O → List ℕ → Held D I O → Held D I O → SessionEnd → Type 0
RunSteps seen file before now e =
    (IsUnmounted file (seen.disk before.disk) (seen.disk now.disk) e
    × (now.source ≡ before.source) × (now.sink ≡ before.sink))
    ⊎ RunsMounted seen file before now e

-- What the command that serves requests does to its devices. No count falls, and a device's own fault comes
-- only where its count rose; where all is done the sink's didn't. What is told stays told.
pub record KeepsRun (old new : Devices) (from rest : SourceState) (status : ℕ) : Type 0 where
  pub later : old.disk.faults ≤ new.disk.faults
  pub rose : status ≡ DISK_FAILED → Rose old.disk.faults new.disk.faults
  pub no_turn_back : old.disk.turn ≤ new.disk.turn
  pub told : new.disk.tells ≡ old.disk.tells
  pub images_told : new.disk.tells_images ≡ old.disk.tells_images
  pub source_later : from.faults ≤ rest.faults
  pub source_rose : status ≡ SOURCE_FAILED → Rose from.faults rest.faults
  pub sink_later : old.sink.faults ≤ new.sink.faults
  pub sink_rose : status ≡ SINK_FAILED → Rose old.sink.faults new.sink.faults
  pub sink_calm : status ≡ DONE → new.sink.faults ≡ old.sink.faults
  pub sink_told : new.sink.tells ≡ old.sink.tells

-- the file wasn't there, or isn't opened, or memory was wanting
abbrev pub IsUnserved : ℕ → Type 0
IsUnserved status = (status ≡ NO_FILE) ⊎ (status ≡ NO_STORE) ⊎ (status ≡ NO_MEMORY)

-- How many requests were answered and are kept. None where no session was begun for want of the file, of a
-- store or of memory, or where no file was mounted; else at most as many as one session answers, and so many
-- exactly where it ended for that. Of a disk that tells its content no more are kept than were answered.
pub record HasCounted (o : Outcome) (told mounted : Type 0) : Type 0 where
  pub none : IsUnserved o.status ⊎ (mounted → ⊥) → (o.done ≡ 0) × (o.kept_done ≡ 0)
  pub few : o.done ≤ budget
  pub limit : (o.status ≡ TOO_MANY_REQUESTS) ↔ (o.done ≡ budget)
  pub kept : told → o.kept_done ≤ o.done

-- What the command that serves requests does whatever the file and the devices tell. Where no request was
-- read the input is as it was, and the fault line is all that is put; where the file isn't there or is
-- refused, it stays as it was. One that opens isn't refused.
pub record RunAlways (o : Outcome) (old new : Devices) (from rest : SourceState)
    (same_input : Type 0) : Type 0 where
  pub keeps : KeepsRun old new from rest o.status
  pub numbers : HasCounted o (IsTrue old.disk.tells) (HasMounted new.disk)
  pub turn : IsKeptTurn o (HasMounted new.disk) old.disk.turn new.disk.turn
  pub unread : IsUnserved o.status → same_input
  pub untouched : (o.status ≡ NO_FILE) ⊎ (o.status ≡ NO_STORE) → Untouched old.disk new.disk
  pub refused : IsTrue old.disk.tells → o.status ≡ NO_STORE → NeverServed old.disk.file
  pub line_alone : IsTrue old.sink.tells → IsUnserved o.status → PutsLine o.status old.sink new.sink

-- the status and the numbers of an end
abbrev pub outcome_of : SessionEnd → Outcome
outcome_of e = record {
  status = status_at e.end;
  done = e.done;
  kept_done = e.kept_done;
  kept_turn = e.kept_turn;
}
