-- What an upgrade does whatever its file and its devices tell.
use Rattle.std.specs.Prelude.{◌≡◌, ◌⊎◌, ◌≤◌, ℕ, true, List, Result, IsTrue, OnOk, refl}
use Rattle.std.proofs.Common.{ap, inl, inr}
use Rattle.disk_face.specs.Counts.{Rose}
use Rattle.disk_face.specs.Devices.{devices}
use Rattle.disk_face.specs.States.{State}
use Rattle.disk_face.specs.Streams.{SinkState}
use Rattle.command_face.specs.Outcomes.{PutsLast, line_at, status_at}
use Rattle.command_face.specs.declared.status.TheConstants.{DONE, NO_STORE, SINK_FAILED}
use Rattle.command_face.specs.declared.stop.StopReason.{StopReason}
use Rattle.served_file.specs.Steps.{FileSteps}
use Rattle.served_file.proofs.AlwaysLaws.{ends_or_puts, known_stopped, serves_always}
use Rattle.served_file.proofs.StepsLaws.{Whole, stopped_or_done, whole}
use Rattle.upgrade_command.specs.Doing.{IsUpgrade}
use Rattle.upgrade_command.specs.Upgrading.{UpgradeAlways, is_upgrading}
use Rattle.upgrade_command.proofs.DoneLaws.{HowEnded, ended, keeps_done}

module _ {D : Type 0} (disk_of : D → State) (file : List ℕ) (old z : State) (out put after : SinkState)
    (end : Result (Unit {0}) StopReason)
    (steps : FileSteps disk_of file IsUpgrade (devices old out) (devices z put) end) where
  pub upgrade_whole : Whole file (devices old out) (devices z put) end
  upgrade_whole = whole disk_of file IsUpgrade (devices old out) (devices z put) end
      (λ s a b. keeps_done a b s end) steps

  abbrev Known : Type 0
  Known = (is_upgrading (status_at end) ≡ true) ⊎ (status_at end ≡ NO_STORE)

  -- it was done, or the sink failed, or nothing was put
  abbrev PutOrNot : Type 0
  PutOrNot = ((status_at end ≡ DONE) ⊎ (status_at end ≡ SINK_FAILED)) ⊎ (put ≡ out)

  known_by : {a b : _} → HowEnded a b end → Known
  known_by (HowEnded.put (inl is)) = inl (ap is_upgrading is)
  known_by (HowEnded.put (inr is)) = inl (ap is_upgrading is)
  known_by (HowEnded.refused (inl is) same) = inl (ap is_upgrading is)
  known_by (HowEnded.refused (inr is) same) = inl (ap is_upgrading is)
  known_by (HowEnded.failed is same) = inl (ap is_upgrading is)

  put_by : {a : State} → HowEnded (devices a out) (devices z put) end → PutOrNot
  put_by (HowEnded.put which) = inl which
  put_by (HowEnded.refused which same) = inr same
  put_by (HowEnded.failed is same) = inr same

  both : Known × PutOrNot
  both = elim (stopped_or_done disk_of file IsUpgrade (devices old out) (devices z put) end steps)
      as (λ _. Known × PutOrNot) [
        | inl is ↦ (known_stopped is_upgrading refl refl refl (status_at end) is.status, inr is.nothing)
        | inr is ↦ (
            let how = (ended (devices (disk_of is.mid) out) (devices z put) is.store end is.fresh
            is.done).how in
            (known_by how, put_by how)
            )
      ]

  module _ (status : ℕ) (is : status ≡ status_at end)
      (line : IsTrue put.tells
      → PutsLast put.given after.given (line_at end) (Rose put.faults after.faults))
      (later : put.faults ≤ after.faults) (calm : OnOk end (after.faults ≡ put.faults))
      (told : after.tells ≡ put.tells) where
    pub upgrade_always : UpgradeAlways status (devices old out) (devices z after)
    upgrade_always = record {
      serves = serves_always file old z out put after end status is line later calm told is_upgrading both.0
          upgrade_whole;
      line_alone = λ tells.
          ends_or_puts file old z out put after end status is line later calm told both.1 tells;
    }
