-- How the jobs of a number went, from the steps that their functions take.
use Rattle.std.specs.Prelude.{◌≡◌, ℕ, ◌≤◌, List, false, IsTrue, OnErr, Result, Ok, Err}
use Rattle.std.proofs.Common.{ap, sym, subst, inl, inr, refl}
use Rattle.disk_face.specs.Counts.{HasCause}
use Rattle.disk_face.specs.Frames.{AfterMount}
use Rattle.disk_face.specs.States.{State}
use Rattle.disk_face.specs.Streams.{Puts, SinkState}
use Rattle.disk_face.specs.declared.bay.Mounted.TheVariants.{There}
use Rattle.size_class.specs.declared.TheConstants.{CLASSES}
use Rattle.store_model.specs.Connection.{StoreValue}
use Rattle.store_model.specs.Opened.{IsOpening}
use Rattle.work_session.specs.Works.{HasDone, HasStopped}
use Rattle.work_session.specs.declared.summary.Summary.{Summary}
use Rattle.work_command.specs.Steps.{OpenWorkSteps, WorkSteps}
use Rattle.work_command.specs.Asked.{NumberedJobs, Tells, TellsOn, jobs_of}
use Rattle.command_face.specs.Mounting.{IsNotThere, mounted}
use Rattle.command_face.specs.declared.stop.StopReason.{StopReason}
use Rattle.command_face.specs.declared.stop.StopReason.TheVariants as stop
use Rattle.disk_face.specs.Devices.{devices}

module _ {D : Type 0} (disk_of : D → State) (asked : NumberedJobs) (first mid now : D) (out put : SinkState)
    (s : StoreValue)
    (opening : IsOpening CLASSES (disk_of first) (disk_of mid) (Ok s)) where
  pub steps_all : (x : Summary) (text : List ℕ) (end : Result (Unit {0}) StopReason)
      (done : HasDone CLASSES s (jobs_of asked s) (disk_of mid) (disk_of now) x)
      → (IsTrue (disk_of mid).tells → Tells asked.entries (jobs_of asked s) done.replies x text)
      → TellsOn asked.entries x text
      → (IsTrue out.tells → Puts out.given put.given text end) → OnErr end (end ≡ Err stop.Sink)
      → put.tells ≡ out.tells → HasCause out.faults put.faults end
      → OpenWorkSteps disk_of asked
      (devices (disk_of first) out) (devices (disk_of now) put) end
  steps_all x text end done tells tells_on puts only told cause = inr (record {
    store = s;
    mid = mid;
    opening = opening;
    summary = x;
    done = done;
    text = text;
    tells = tells;
    tells_on = tells_on;
    puts = puts;
    only = only;
    cause = cause;
    told = told;
  })

  pub steps_stop : HasStopped CLASSES s (jobs_of asked s) (disk_of mid) (disk_of now)
      → put ≡ out
      → OpenWorkSteps disk_of asked (devices (disk_of first) out)
      (devices (disk_of now) put)
      (Err stop.Disk)
  steps_stop stopped same = inl (
    inr (inr (record {
      store = s;
      mid = mid;
      opening = opening;
      stopped = stopped;
      ended = refl;
    })),
    same,
  )

  pub steps_nothing : disk_of now ≡ disk_of mid → put ≡ out
      → OpenWorkSteps disk_of asked
      (devices (disk_of first) out) (devices (disk_of now) put) (Err stop.NoMemory)
  steps_nothing still same = inl (
    inr (inl (record {
      store = s;
      opening = subst (λ (x : State). IsOpening CLASSES (disk_of first) x (Ok s)) (sym still) opening;
      ended = refl;
    })),
    same,
  )

-- ---- mounting

module _ {D : Type 0} (disk_of : D → State) (file : List ℕ) (asked : NumberedJobs) (old now : State)
    (out : SinkState) where
  abbrev IsOut : Result (Unit {0}) StopReason → Type 0
  IsOut end = IsNotThere file old now (end ≡ Err stop.Disk) (end ≡ Err stop.NoFile)

  pub steps_unmounted : (why : StopReason) → AfterMount old now → old.faults ≤ now.faults
      → IsNotThere file old now (why ≡ stop.Disk) (why ≡ stop.NoFile)
      → WorkSteps disk_of file asked (devices old out) (devices now out) (Err why)
  steps_unmounted why mount later is = inl (
    record {
      mount = mount;
      later = later;
      which = elim is as (λ _. IsOut (Err why)) [
        | inl failed ↦ inl (ap (λ (w : StopReason). Err w) failed.0, failed.1, failed.2)
        | inr gone ↦ inr (ap (λ (w : StopReason). Err w) gone.0, gone.1, gone.2)
      ];
    },
    refl,
  )

  pub steps_mounted : (first : D) (put : SinkState) (end : Result (Unit {0}) StopReason)
      → AfterMount old (disk_of first) → (disk_of first).last_mount ≡ mounted file false There
      → (disk_of first).faults ≡ old.faults
      → OpenWorkSteps disk_of asked (devices (disk_of first) out)
      (devices now put) end
      → WorkSteps disk_of file asked (devices old out) (devices now put) end
  steps_mounted first put end mount there calm steps =
      inr (record { first = first; mount = mount; there = there; calm = calm; steps = steps })
