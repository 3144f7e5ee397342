-- What `batch` does whatever its file and its devices tell.
use Rattle.std.specs.Prelude.{◌≡◌, ◌⊎◌, ◌≤◌, ℕ, true, List, Result, IsTrue, OnOk, refl}
use Rattle.std.proofs.Common.{inl, inr}
use Rattle.disk_face.specs.Counts.{Rose}
use Rattle.disk_face.specs.Devices.{devices}
use Rattle.disk_face.specs.States.{State}
use Rattle.disk_face.specs.Streams.{SinkState, SourceState}
use Rattle.command_face.specs.Outcomes.{PutsLast, line_at, status_at}
use Rattle.command_face.specs.declared.status.TheConstants.{DONE, NO_STORE, SINK_FAILED}
use Rattle.command_face.specs.declared.stop.StopReason.{StopReason}
use Rattle.served_file.specs.Steps.{FileSteps}
use Rattle.served_file.proofs.AlwaysLaws.{ends_or_puts, known_stopped, serves_always}
use Rattle.served_file.proofs.StepsLaws.{Whole, stopped_or_done, whole}
use Rattle.batch_command.specs.Batching.{BatchAlways, is_batching}
use Rattle.batch_command.specs.Doing.{IsBatching}
use Rattle.batch_command.proofs.DoneLaws.{ended, keeps_done}

module _ {D : Type 0} (disk_of : D → State) (file : List ℕ) (from rest : SourceState) (old z : State)
    (out put after : SinkState) (end : Result (Unit {0}) StopReason)
    (steps : FileSteps disk_of file (IsBatching disk_of from rest) (devices old out) (devices z put) end)
  where
    pub batch_whole : Whole file (devices old out) (devices z put) end
    batch_whole = whole disk_of file (IsBatching disk_of from rest) (devices old out) (devices z put) end
        (λ s a b. keeps_done disk_of from rest s a b end) steps

    abbrev Known : Type 0
    Known = (is_batching (status_at end) ≡ true) ⊎ (status_at end ≡ NO_STORE)

    -- it was done, or the sink failed, or nothing was put
    abbrev PutOrNot : Type 0
    PutOrNot = ((status_at end ≡ DONE) ⊎ (status_at end ≡ SINK_FAILED)) ⊎ (put ≡ out)

    both : Known × PutOrNot
    both = elim (stopped_or_done disk_of file (IsBatching disk_of from rest) (devices old out) (devices z put)
        end steps) as (λ _. Known × PutOrNot) [
          | inl is ↦ (known_stopped is_batching refl refl refl (status_at end) is.status, inr is.nothing)
          | inr is ↦ (
              let e = ended disk_of from rest is.store (devices (disk_of is.mid) out) (devices z put) end
              is.fresh.whole is.done in
              (inl e.known, e.how)
              )
        ]

    module _ (status : ℕ) (is : status ≡ status_at end)
        (line : IsTrue put.tells
        → PutsLast put.given after.given (line_at end) (Rose put.faults after.faults))
        (later : put.faults ≤ after.faults) (calm : OnOk end (after.faults ≡ put.faults))
        (told : after.tells ≡ put.tells) where
      pub batch_always : BatchAlways status (devices old out) (devices z after)
      batch_always = record {
        serves = serves_always file old z out put after end status is line later calm told is_batching both.0
            batch_whole;
        line_alone = λ tells.
            ends_or_puts file old z out put after end status is line later calm told both.1 tells;
      }
