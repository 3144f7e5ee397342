-- How a command ends whose file is there, where no call of the disk or of the sink failed.
use Rattle.std.specs.Prelude.{◌≡◌, ◌⊎◌, ℕ, List, false}
use Rattle.std.proofs.Common.{◌∙◌, ap, arith, inl, inr, sym}
use Rattle.std.proofs.lemmas.Bool.{false≢true}
use Rattle.disk_face.specs.Counts.{IsCalm}
use Rattle.disk_face.specs.Devices.{Devices}
use Rattle.disk_face.specs.Mounts.{is_mounted}
use Rattle.disk_face.specs.declared.bay.Mounted.TheVariants.{There}
use Rattle.command_face.specs.Layers.{HasCauses}
use Rattle.command_face.specs.Mounting.{IsMounted, mounted}
use Rattle.command_face.specs.Outcomes.{status_at}
use Rattle.command_face.specs.declared.status.TheConstants.{DISK_FAILED, DONE, NO_FILE, NO_MEMORY, SINK_FAILED}
use Rattle.upgrade_command.specs.Upgrading.{UpgradeHolds, upgrade_end}
use Rattle.served_file.specs.Served.{Found}
use Rattle.costore_top.proofs.AnswerLaws.{IsFree, one_end}

module _ (name : List ℕ) (status : ℕ) (old new : Devices)
    (causes : HasCauses old.disk new.disk old.sink new.sink (status ≡ DISK_FAILED) (status ≡ SINK_FAILED)
    (status ≡ DONE))
    (mount : IsMounted name false new.disk.last_mount (status ≡ DISK_FAILED) (status ≡ NO_FILE))
    (there : new.disk.last_mount ≡ mounted name false There)
    (calm : IsCalm old.disk.faults new.disk.faults) (sink_calm : IsCalm old.sink.faults new.sink.faults) where
  pub not_disk : status ≡ DISK_FAILED → ⊥
  not_disk is = omega (arith, causes.rose is, calm.same, calm.below)

  pub not_sink : status ≡ SINK_FAILED → ⊥
  not_sink is = omega (arith, causes.sink_rose is, sink_calm.same, sink_calm.below)

  pub not_absent : status ≡ NO_FILE → ⊥
  not_absent is = false≢true (ap is_mounted (sym (mount.absent.0 is) ∙ there))

  -- of the statuses that come of no answer only that for want of memory is left
  pub one_or_memory : (n : ℕ) → (status ≡ n) ⊎ IsFree status → (status ≡ n) ⊎ (status ≡ NO_MEMORY)
  one_or_memory n (inl is) = inl is
  one_or_memory n (inr (inl is)) = absurd (not_absent is)
  one_or_memory n (inr (inr (inl is))) = absurd (not_disk is)
  one_or_memory n (inr (inr (inr (inl is)))) = absurd (not_sink is)
  one_or_memory n (inr (inr (inr (inr is)))) = inr is

  pub upgrade_answers : (found : Found) (holds : UpgradeHolds found status old new)
      → (status ≡ status_at (upgrade_end found.block.names holds.start)) ⊎ (status ≡ NO_MEMORY)
  upgrade_answers found holds =
      let answer = upgrade_end found.block.names holds.start in
      one_or_memory (status_at answer)
      (one_end answer (λ other. other ≡ answer) status old.sink new.sink (λ other is. sym is) holds.ends)
