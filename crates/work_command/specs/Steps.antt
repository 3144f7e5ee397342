-- How the jobs of a number over a file went, step by step.
use Rattle.std.specs.Prelude.{◌≡◌, ◌⊎◌, ℕ, ◌≤◌, List, false, IsTrue, OnErr, Result, Ok, Err}
use Rattle.disk_face.specs.Counts.{HasCause}
use Rattle.disk_face.specs.Frames.{AfterMount}
use Rattle.disk_face.specs.States.{State}
use Rattle.disk_face.specs.Streams.{Puts}
use Rattle.disk_face.specs.declared.bay.Mounted.TheVariants.{There}
use Rattle.size_class.specs.declared.TheConstants.{CLASSES}
use Rattle.store_model.specs.Connection.{StoreValue}
use Rattle.store_model.specs.Opened.{IsOpening}
use Rattle.reopen.specs.declared.fault.OpenFault.{OpenFault}
use Rattle.work_session.specs.Works.{HasDone, HasStopped}
use Rattle.work_session.specs.declared.summary.Summary.{Summary}
use Rattle.disk_face.specs.Devices.{Devices, devices}
use Rattle.command_face.specs.Mounting.{IsNotThere, mounted}
use Rattle.command_face.specs.Refusing.{stop_of}
use Rattle.work_command.specs.Asked.{NumberedJobs, Tells, TellsOn, jobs_of}
use Rattle.command_face.specs.declared.stop.StopReason.{StopReason}
use Rattle.command_face.specs.declared.stop.StopReason.TheVariants as stop

-- the file wasn't opened
pub record IsRefusal (before now : State) (end : Result (Unit {0}) StopReason) : Type 0 where
  pub fault : OpenFault
  pub opening : IsOpening CLASSES before now (Err fault)
  pub ended : end ≡ Err (stop_of fault)

-- It was opened, and there was no memory for the jobs.
pub record IsNotBegun (before now : State) (end : Result (Unit {0}) StopReason) : Type 0 where
  pub store : StoreValue
  pub opening : IsOpening CLASSES before now (Ok store)
  pub ended : end ≡ Err stop.NoMemory

-- It was opened, at `mid`, and the disk failed in a job.
pub record IsStoppedInJob {D : Type 0} (disk_of : D → State) (asked : NumberedJobs) (before now : State)
    (end : Result (Unit {0}) StopReason) : Type 0 where
  pub store : StoreValue
  pub mid : D
  pub opening : IsOpening CLASSES before (disk_of mid) (Ok store)
  pub stopped : HasStopped CLASSES store (jobs_of asked store) (disk_of mid) now
  pub ended : end ≡ Err stop.Disk

-- It was opened, at `mid`, all jobs were done, and the text of their summary was put, unless the sink failed.
pub record IsAllDone {D : Type 0} (disk_of : D → State) (asked : NumberedJobs) (before now : Devices)
    (end : Result (Unit {0}) StopReason) : Type 0 where
  pub store : StoreValue
  pub mid : D
  pub opening : IsOpening CLASSES before.disk (disk_of mid) (Ok store)
  pub summary : Summary
  pub done : HasDone CLASSES store (jobs_of asked store) (disk_of mid) now.disk summary
  pub text : List ℕ
  pub tells : IsTrue (disk_of mid).tells
      → Tells asked.entries (jobs_of asked store) done.replies summary text
  pub tells_on : TellsOn asked.entries summary text
  pub puts : IsTrue before.sink.tells → Puts before.sink.given now.sink.given text end
  pub only : OnErr end (end ≡ Err stop.Sink)
  pub cause : HasCause before.sink.faults now.sink.faults end
  pub told : now.sink.tells ≡ before.sink.tells

-- The jobs over an open file went so; but for a summary nothing was put.
abbrev pub OpenWorkSteps : {D : Type 0} → (D → State) → NumberedJobs → Devices → Devices
    → Result (Unit {0}) StopReason → Type 0
OpenWorkSteps disk_of asked before now end =
    ((IsRefusal before.disk now.disk end ⊎ IsNotBegun before.disk now.disk end
    ⊎ IsStoppedInJob disk_of asked before.disk now.disk end) × (now.sink ≡ before.sink))
    ⊎ IsAllDone disk_of asked before now end

-- The file wasn't mounted.
pub record IsNotMounted (file : List ℕ) (before now : State) (end : Result (Unit {0}) StopReason)
    : Type 0 where
  pub mount : AfterMount before now
  pub later : before.faults ≤ now.faults
  pub which : IsNotThere file before now (end ≡ Err stop.Disk) (end ≡ Err stop.NoFile)

-- It was mounted, at `first`, and the jobs over it went so.
pub record IsWorked {D : Type 0} (disk_of : D → State) (file : List ℕ) (asked : NumberedJobs)
    (before now : Devices) (end : Result (Unit {0}) StopReason) : Type 0 where
  pub first : D
  pub mount : AfterMount before.disk (disk_of first)
  pub there : (disk_of first).last_mount ≡ mounted file false There
  pub calm : (disk_of first).faults ≡ before.disk.faults
  pub steps : OpenWorkSteps disk_of asked (devices (disk_of first) before.sink) now end

-- A command that does jobs went so; where its file wasn't mounted, nothing was put.
abbrev pub WorkSteps : {D : Type 0} → (D → State) → List ℕ → NumberedJobs → Devices → Devices
    → Result (Unit {0}) StopReason → Type 0
WorkSteps disk_of file asked before now end =
    (IsNotMounted file before.disk now.disk end × (now.sink ≡ before.sink))
    ⊎ IsWorked disk_of file asked before now end
