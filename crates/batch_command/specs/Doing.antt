-- How a batch went over an open store, step by step, what was read for it, and what was put.
use Rattle.std.specs.Prelude.{◌≡◌, ◌⊎◌, ℕ, Bool, true, false, List, codes, IsTrue, OnErr, None, Result, Ok, Err}
use Rattle.disk_face.specs.Counts.{HasCause}
use Rattle.disk_face.specs.Devices.{Devices, devices}
use Rattle.disk_face.specs.States.{State}
use Rattle.disk_face.specs.Streams.{Puts, SinkState, SourceState}
use Rattle.size_class.specs.declared.TheConstants.{CLASSES}
use Rattle.store_model.specs.Connection.{StoreValue}
use Rattle.command_face.specs.declared.stop.StopReason.{StopReason}
use Rattle.command_face.specs.declared.stop.StopReason.TheVariants as stop
use Rattle.batch_core.specs.Answers.{Applies, Finishes, IsReadBy}
use Rattle.batch_core.specs.StoresOn.{store_on}
use Rattle.batch_core.specs.declared.fault.BatchFault.{BatchFault}
use Rattle.batch_core.specs.declared.fault.BatchFault.TheVariants as fault
use Rattle.batch_command.specs.Reading.{IsRead, IsUnread}

-- ---- what is put

-- why a batch wasn't done, as a reason to stop; a store that was just opened isn't broken
abbrev pub reason_of : BatchFault → StopReason
reason_of fault.Broken = stop.Disk
reason_of fault.Damaged = stop.Damaged
reason_of fault.NoBatch = stop.NoBatch
reason_of (fault.Line n) = stop.Line n
reason_of (fault.Unfit n) = stop.Unfit n
reason_of fault.Worn = stop.Worn
reason_of fault.Disk = stop.Disk

-- what is put once a text was applied: where it has changes they were kept
abbrev pub line_for : Bool → List ℕ
line_for true = codes "ok kept\n"
line_for false = codes "ok\n"

-- The line was put, unless the sink failed.
pub record PutsReply (kept : Bool) (before now : SinkState) (end : Result (Unit {0}) StopReason) : Type 0
  where
    pub puts : IsTrue before.tells → Puts before.given now.given (line_for kept) end
    pub only : OnErr end (end ≡ Err stop.Sink)
    pub cause : HasCause before.faults now.faults end
    pub told : now.tells ≡ before.tells

-- it ended so: the line was put, or a fault stopped it and nothing was
abbrev pub EndsAs : Result Bool BatchFault → SinkState → SinkState → Result (Unit {0}) StopReason → Type 0
EndsAs (Ok kept) before now end = PutsReply kept before now end
EndsAs (Err why) before now end = (end ≡ Err (reason_of why)) × (now ≡ before)

-- ---- the steps

-- A text was applied, and what came of the answer.
pub record IsApplied (s : StoreValue) (text : List ℕ) (before now : Devices)
    (end : Result (Unit {0}) StopReason) : Type 0 where
  pub new : StoreValue
  pub result : Result Bool BatchFault
  pub applies : Applies CLASSES text (store_on s before.disk) (store_on new now.disk) result
  pub ends : EndsAs result before.sink now.sink end

-- The input was read, and applied.
pub record HasRead (from rest : SourceState) (s : StoreValue) (before now : Devices)
    (end : Result (Unit {0}) StopReason) : Type 0 where
  pub text : List ℕ
  pub read : IsRead from rest text
  pub applied : IsApplied s text before now end

-- The input couldn't be read, and nothing was put.
pub record HasNotRead (from rest : SourceState) (before now : Devices) (end : Result (Unit {0}) StopReason)
    : Type 0 where
  pub unread : IsUnread from rest
  pub disk : IsReadBy before.disk now.disk
  pub ended : end ≡ Err stop.Source
  pub nothing : now.sink ≡ before.sink

abbrev pub AppliesInput : SourceState → SourceState → StoreValue → Devices → Devices
    → Result (Unit {0}) StopReason → Type 0
AppliesInput from rest s before now end =
    HasNotRead from rest before now end ⊎ HasRead from rest s before now end

-- There was no memory for a batch: nothing was done, read or put.
pub record HasNoMemory (from rest : SourceState) (before now : Devices) (end : Result (Unit {0}) StopReason)
    : Type 0 where
  pub disk : IsReadBy before.disk now.disk
  pub ended : end ≡ Err stop.NoMemory
  pub nothing : now.sink ≡ before.sink
  pub unread : rest ≡ from

-- a store may make requests: no flush of it is in hand, and its disk is ready
pub record IsIdle (s : StoreValue) (d : State) : Type 0 where
  pub idle : s.in_hand ≡ None
  pub ready : IsTrue d.is_ready

-- The batch that the store kept couldn't be finished, and nothing was read or put.
pub record HasStopped (from rest : SourceState) (s : StoreValue) (before now : Devices)
    (end : Result (Unit {0}) StopReason) : Type 0 where
  pub idle : IsIdle s before.disk
  pub new : StoreValue
  pub why : BatchFault
  pub finishes : Finishes CLASSES (store_on s before.disk) (store_on new now.disk) (Err why)
  pub ended : end ≡ Err (reason_of why)
  pub nothing : now.sink ≡ before.sink
  pub unread : rest ≡ from

-- The batch that the store kept was finished, if it kept one, at `mid`, and then the input was applied.
pub record HasFinished {D : Type 0} (disk_of : D → State) (from rest : SourceState) (s : StoreValue)
    (before now : Devices) (end : Result (Unit {0}) StopReason) : Type 0 where
  pub idle : IsIdle s before.disk
  pub new : StoreValue
  pub mid : D
  pub done : Bool
  pub finishes : Finishes CLASSES (store_on s before.disk) (store_on new (disk_of mid)) (Ok done)
  pub after : AppliesInput from rest new (devices (disk_of mid) before.sink) now end

-- what is done with an open store, by what an input has left before and after
abbrev pub IsBatching : {D : Type 0} → (D → State) → SourceState → SourceState → StoreValue → Devices
    → Devices → Result (Unit {0}) StopReason → Type 0
IsBatching disk_of from rest s before now end = HasNoMemory from rest before now end
    ⊎ HasStopped from rest s before now end ⊎ HasFinished disk_of from rest s before now end
