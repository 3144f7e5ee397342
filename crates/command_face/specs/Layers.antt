-- What every layer of the program says, whatever it is asked for.
use Rattle.std.specs.Prelude.{◌≡◌, ◌≢◌, ◌⊎◌, ◌+◌, ◌<◌, ◌≤◌, List, ℕ, length, IsTrue, Result, Ok, Err, IfErr}
use Rattle.disk_face.specs.Counts.{Rose}
use Rattle.disk_face.specs.States.{State}
use Rattle.disk_face.specs.Streams.{SinkState, Puts}
use Rattle.disk_face.specs.Frames.{Unchanged, Untouched}
use Rattle.slot_pair.specs.Finding.{HasDiskCause}
use Rattle.command_face.specs.Outcomes.{EndsBy}
use Rattle.command_face.specs.declared.stop.StopReason.{StopReason}
use Rattle.command_face.specs.declared.stop.StopReason.TheVariants as stop

-- No count of faults falls. A device's own fault comes only where its count rose; else no call of the disk
-- failed, and where all is done none of the sink. What the sink tells stays told.
pub record HasCauses (old new : State) (sink_old sink_new : SinkState) (disk_failed sink_failed done : Type 0)
    : Type 0 where
  pub later : old.faults ≤ new.faults
  pub rose : disk_failed → Rose old.faults new.faults
  pub calm : (disk_failed → ⊥) → new.faults ≡ old.faults
  pub sink_later : sink_old.faults ≤ sink_new.faults
  pub sink_rose : sink_failed → Rose sink_old.faults sink_new.faults
  pub sink_calm : done → sink_new.faults ≡ sink_old.faults
  pub sink_told : sink_new.tells ≡ sink_old.tells

-- Beside that what the disk tells stays told, at most ten changing calls are made, and none on a file that
-- isn't empty.
pub record Keeps (old new : State) (sink_old sink_new : SinkState) (disk_failed sink_failed done : Type 0)
    : Type 0 where
  pub causes : HasCauses old new sink_old sink_new disk_failed sink_failed done
  pub told : new.tells ≡ old.tells
  pub images_told : new.tells_images ≡ old.tells_images
  pub few : new.turn ≤ old.turn + 10
  pub taken : IsTrue old.tells → 0 < length old.file → Untouched old new

-- the same of a layer that ends so
abbrev pub HasCausesAt : State → State → SinkState → SinkState → Result (Unit {0}) StopReason → Type 0
HasCausesAt old new sink_old sink_new end =
    HasCauses old new sink_old sink_new (end ≡ Err stop.Disk) (end ≡ Err stop.Sink) (end ≡ Ok tt)

abbrev pub KeepsAt : State → State → SinkState → SinkState → Result (Unit {0}) StopReason → Type 0
KeepsAt old new sink_old sink_new end =
    Keeps old new sink_old sink_new (end ≡ Err stop.Disk) (end ≡ Err stop.Sink) (end ≡ Ok tt)

-- A step that looks at the file leaves it, and stops for what the file shows, or where the disk failed.
pub record Looks {T : Type 0} (old new : State) (result : Result T StopReason) : Type 0 where
  pub only : IfErr result (λ why. (why ≢ stop.Sink) × (why ≢ stop.NoFile) × (why ≢ stop.Words))
  pub cause : HasDiskCause stop.Disk old.faults new.faults result
  pub frame : Unchanged old new

-- a reason to stop that isn't one of a session's alone
abbrev pub IsCommandReason : StopReason → Type 0
IsCommandReason why = (why ≢ stop.Source) × (why ≢ stop.Budget) × ((n : ℕ) → why ≢ stop.Line n)

-- The command ended as its answer says, and put the answer, or a front of it where it stopped.
pub record Answers (answer : Result (List ℕ) StopReason → Type 0) (old new : SinkState)
    (end : Result (Unit {0}) StopReason) : Type 0 where
  pub bytes : List ℕ
  pub ends : EndsBy answer bytes end
  pub puts : IsTrue old.tells → Puts old.given new.given bytes end

-- where a layer stopped and no device failed, nothing was put
abbrev pub PutsNone : {O : Type 0} → O → O → Result (Unit {0}) StopReason → Type 0
PutsNone old new end = IfErr end (λ why. (why ≡ stop.Disk) ⊎ (why ≡ stop.Sink) ⊎ (new ≡ old))
