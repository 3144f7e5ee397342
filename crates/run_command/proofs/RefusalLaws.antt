-- Where `run` ends with status 4, its file never opens.
use Rattle.std.specs.Prelude.{◌≡◌, ℕ, List, IsTrue}
use Rattle.std.proofs.Common.{arith, ap, sym, ◌∙◌, inl, inr}
use Rattle.ask_session.specs.Outside.{Held, Seen, held}
use Rattle.served_file.specs.Unserved.{NeverServed}
use Rattle.command_face.specs.declared.status.TheConstants.{NO_STORE}
use Rattle.command_face.specs.Outcomes.{status_at}
use Rattle.run_command.specs.Sessions.{OpenRunSteps, RunSteps}
use Rattle.run_command.specs.declared.run.SessionEnd.{SessionEnd}
use Rattle.run_command.proofs.ClauseLaws.{session_keeps}
use Rattle.served_file.proofs.RefusedLaws.{never_mounted}

module _ {D I O : Type 0} (seen : Seen D I O) (file : List ℕ) (before now : Held D I O) (e : SessionEnd)
    (told : IsTrue (seen.disk before.disk).tells) (four : status_at e.end ≡ NO_STORE) where
  pub never_ran : RunSteps seen file before now e → NeverServed (seen.disk before.disk).file
  never_ran (inl (is, source, sink)) = elim is.which as (λ _. NeverServed (seen.disk before.disk).file) [
    | inl failed ↦ absurd (omega (arith, four, ap (λ (y : SessionEnd). status_at y.end) failed.0))
    | inr gone ↦ absurd (omega (arith, four, ap (λ (y : SessionEnd). status_at y.end) gone.0))
  ]
  never_ran (inr x) = by x.steps
    where
      by : OpenRunSteps seen (held x.first before.source before.sink) now e
          → NeverServed (seen.disk before.disk).file
      by (inl (inl is, source, sink)) = never_mounted (seen.disk before.disk) (seen.disk x.first)
          (seen.disk now.disk) is.fault x.mount is.opening told
          (sym (ap (λ (y : SessionEnd). status_at y.end) is.ended) ∙ four)
      by (inl (inr is, source, sink)) =
          absurd (omega (arith, four, ap (λ (y : SessionEnd). status_at y.end) is.ended))
      by (inr y) =
          absurd ((session_keeps seen (held y.mid before.source before.sink) now y.store y.new y.end
          y.ran).served (inr (inl (sym (ap (λ (w : SessionEnd). status_at w.end) y.ended) ∙ four))))
