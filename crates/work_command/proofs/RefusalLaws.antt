-- Where `work` ends with status 4, its file never opens.
use Rattle.std.specs.Prelude.{◌≡◌, ℕ, List, Result, Ok, Err, OnErr, IsTrue}
use Rattle.std.proofs.Common.{arith, ap, sym, ◌∙◌, inl, inr}
use Rattle.disk_face.specs.States.{State}
use Rattle.disk_face.specs.Streams.{SinkState}
use Rattle.command_face.specs.declared.status.TheConstants.{NO_STORE}
use Rattle.work_command.specs.Steps.{OpenWorkSteps, WorkSteps}
use Rattle.work_command.specs.Asked.{NumberedJobs}
use Rattle.served_file.specs.Unserved.{NeverServed}
use Rattle.command_face.specs.Outcomes.{status_at}
use Rattle.command_face.specs.declared.stop.StopReason.{StopReason}
use Rattle.command_face.specs.declared.stop.StopReason.TheVariants as stop
use Rattle.served_file.proofs.RefusedLaws.{never_mounted}
use Rattle.disk_face.specs.Devices.{devices}

module _ {D : Type 0} (disk_of : D → State) (file : List ℕ) (asked : NumberedJobs) (old z : State)
    (out put : SinkState) (end : Result (Unit {0}) StopReason) (told : IsTrue old.tells)
    (four : status_at end ≡ NO_STORE) where
  pub never_worked : WorkSteps disk_of file asked (devices old out) (devices z put) end
      → NeverServed old.file
  never_worked (inl (is, same)) = elim is.which as (λ _. NeverServed old.file) [
    | inl failed ↦ absurd (omega (arith, four, ap status_at failed.0))
    | inr gone ↦ absurd (omega (arith, four, ap status_at gone.0))
  ]
  never_worked (inr x) = by x.steps
    where
      by : OpenWorkSteps disk_of asked (devices (disk_of x.first) out)
          (devices z put) end → NeverServed old.file
      by (inl (inl is, same)) = never_mounted old (disk_of x.first) z is.fault x.mount is.opening told
          (sym (ap status_at is.ended) ∙ four)
      by (inl (inr (inl is), same)) = absurd (omega (arith, four, ap status_at is.ended))
      by (inl (inr (inr is), same)) = absurd (omega (arith, four, ap status_at is.ended))
      by (inr is) = done end four is.only
        where
          done : (e : Result (Unit {0}) StopReason) → status_at e ≡ NO_STORE → OnErr e (e ≡ Err stop.Sink)
              → NeverServed old.file
          done (Ok y) n only = absurd (omega (arith, n))
          done (Err why) n only = absurd (omega (arith, n, ap status_at only))
