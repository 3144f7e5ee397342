-- How a session went, from the steps that its functions take.
use Rattle.std.specs.Prelude.{◌≡◌, ℕ, ◌≤◌, List, false, Ok, refl}
use Rattle.std.proofs.Common.{ap, ◌∙◌, subst, inl, inr}
use Rattle.disk_face.specs.Frames.{AfterMount}
use Rattle.disk_face.specs.declared.bay.Mounted.TheVariants.{There}
use Rattle.size_class.specs.declared.TheConstants.{CLASSES}
use Rattle.store_model.specs.Connection.{StoreValue}
use Rattle.store_model.specs.Opened.{IsOpening}
use Rattle.store_model.specs.Stores.{IsStore}
use Rattle.ask_session.specs.Outside.{Held, Seen, held}
use Rattle.ask_session.specs.Sittings.{Sitting, new_sitting}
use Rattle.ask_session.specs.Runs.{EndsRun}
use Rattle.ask_text.specs.declared.ends.End.{End}
use Rattle.run_command.specs.Sessions.{RunSteps, OpenRunSteps, ended_as, unserved}
use Rattle.command_face.specs.Mounting.{IsNotThere, mounted}
use Rattle.command_face.specs.declared.stop.StopReason.{StopReason}
use Rattle.command_face.specs.declared.stop.StopReason.TheVariants as stop
use Rattle.run_command.specs.declared.run.SessionEnd.{SessionEnd}

module _ {D I O : Type 0} (seen : Seen D I O) where
  pub steps_session : (first mid : D) (now : Held D I O) (from : I) (out : O) (store : StoreValue)
      (s new : Sitting) (end : End)
      (turn : ℕ) (e : SessionEnd) → IsOpening CLASSES (seen.disk first) (seen.disk mid) (Ok store)
      → s ≡ new_sitting store turn → turn ≡ (seen.disk mid).turn
      → EndsRun seen CLASSES s new (held mid from out) now end
      → (new.store.is_broken ≡ false → IsStore CLASSES new.store) → e ≡ ended_as end new
      → OpenRunSteps seen (held first from out) now e
  steps_session first mid now from out store s new end turn e opening is at ran sound ended = inr (record {
    store = store;
    mid = mid;
    new = new;
    end = end;
    opening = opening;
    ran = subst (λ (x : Sitting). EndsRun seen CLASSES x new (held mid from out) now end)
        (is ∙ ap (λ (n : ℕ). new_sitting store n) at) ran;
    sound = sound;
    ended = ended;
  })

  pub steps_unbegun : (first now : D) (from : I) (out : O) (store : StoreValue) (turn : ℕ) (e : SessionEnd)
      → IsOpening CLASSES (seen.disk first) (seen.disk now) (Ok store) → turn ≡ (seen.disk now).turn
      → e ≡ unserved stop.NoMemory turn → OpenRunSteps seen (held first from out) (held now from out) e
  steps_unbegun first now from out store turn e opening at is = inl (
    inr (record {
      store = store;
      opening = opening;
      ended = is ∙ ap (λ (n : ℕ). unserved stop.NoMemory n) at;
    }),
    refl,
    refl,
  )

  pub steps_unmounted : (file : List ℕ) (before now : D) (from : I) (out : O) (why : StopReason)
      (e : SessionEnd)
      → AfterMount (seen.disk before) (seen.disk now) → (seen.disk before).faults ≤ (seen.disk now).faults
      → IsNotThere file (seen.disk before) (seen.disk now) (why ≡ stop.Disk) (why ≡ stop.NoFile)
      → e ≡ unserved why 0 → RunSteps seen file (held before from out) (held now from out) e
  steps_unmounted file before now from out why e mount later is ended = inl (
    record {
      mount = mount;
      later = later;
      which = elim is as (λ _. IsNotThere file (seen.disk before) (seen.disk now) (e ≡ unserved stop.Disk 0)
          (e ≡ unserved stop.NoFile 0)) [
            | inl failed ↦ inl (ended ∙ ap (λ (w : StopReason). unserved w 0) failed.0, failed.1, failed.2)
            | inr gone ↦ inr (ended ∙ ap (λ (w : StopReason). unserved w 0) gone.0, gone.1, gone.2)
          ];
    },
    refl,
    refl,
  )

  pub steps_served : (file : List ℕ) (before now : Held D I O) (first : D) (e : SessionEnd)
      → AfterMount (seen.disk before.disk) (seen.disk first)
      → (seen.disk first).last_mount ≡ mounted file false There
      → (seen.disk first).faults ≡ (seen.disk before.disk).faults
      → OpenRunSteps seen (held first before.source before.sink) now e → RunSteps seen file before now e
  steps_served file before now first e mount there calm steps =
      inr (record { first = first; mount = mount; there = there; calm = calm; steps = steps })
