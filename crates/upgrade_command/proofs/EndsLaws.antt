-- How an upgrade ends by its answer, and what was put.
use Rattle.std.specs.Prelude.{◌≡◌, ◌⊎◌, ℕ, true, false, List, [], Result, Ok, Err, refl}
use Rattle.std.proofs.Common.{arith, ap, sym, ◌∙◌, subst, inl, inr, append-nil}
use Rattle.std.specs.FinMap as fin
use Rattle.disk_face.specs.Devices.{Devices}
use Rattle.disk_face.specs.Streams.{SinkState}
use Rattle.store_model.specs.Connection.{StoreValue}
use Rattle.command_face.specs.Layers.{Answers}
use Rattle.command_face.specs.Outcomes.{EndsBy, status_at}
use Rattle.command_face.specs.declared.status.TheConstants.{NO_FILE, NO_MEMORY}
use Rattle.command_face.specs.declared.stop.StopReason.{StopReason}
use Rattle.command_face.specs.declared.stop.StopReason.TheVariants as stop
use Rattle.served_file.proofs.AlwaysLaws.{early_unsaid, nothing_put}
use Rattle.served_file.proofs.StartLaws.{IsEarly}
use Rattle.upgrade_command.specs.Doing.{PutsUpgraded}
use Rattle.upgrade_command.specs.Upgrading.{has_answered, upgraded_line}
use Rattle.upgrade_command.proofs.IdleLaws.{Idle, WasIdle, command_end}
use Rattle.upgrade_command.proofs.IdleLaws.Idle.{already, many, worn}

abbrev pub AnswersWith : Result (List ℕ) StopReason → Result (List ℕ) StopReason → Type 0
AnswersWith wanted answer = answer ≡ wanted

module _ (wanted : Result (List ℕ) StopReason) (out put : SinkState) where
  pub answers_put : (end : Result (Unit {0}) StopReason) → wanted ≡ Ok upgraded_line
      → PutsUpgraded out put end → Answers (AnswersWith wanted) out put end
  answers_put (Ok done) is puts = record { bytes = upgraded_line; ends = sym is; puts = puts.puts }
  answers_put (Err why) is puts = record {
    bytes = upgraded_line;
    ends = subst (EndsBy (AnswersWith wanted) upgraded_line) (sym puts.only) (sym is);
    puts = puts.puts;
  }

  pub answers_idle : (s : StoreValue) (i : Idle) (a b : Devices) (end : Result (Unit {0}) StopReason)
      → a.sink ≡ out → b.sink ≡ put → wanted ≡ command_end (fin.len s.now) i → WasIdle s i a b end
      → Answers (AnswersWith wanted) out put end
  answers_idle s already a b end from to is was = answers_put end is
      (subst (λ x. PutsUpgraded x put end) from (subst (λ y. PutsUpgraded a.sink y end) to was.ends))
  answers_idle s many a b end from to is was = subst (Answers (AnswersWith wanted) out put) (sym was.ends.0)
      (nothing_put (AnswersWith wanted) out put (stop.TooManyNames (fin.len s.now)) (sym is, refl)
      (sym to ∙ was.ends.1 ∙ from))
  answers_idle s worn a b end from to is was = subst (Answers (AnswersWith wanted) out put) (sym was.ends.0)
      (nothing_put (AnswersWith wanted) out put stop.Worn (sym is, refl) (sym to ∙ was.ends.1 ∙ from))

-- ---- the statuses

pub early_unanswered : (end : Result (Unit {0}) StopReason) → IsEarly end
    → has_answered (status_at end) ≡ false
early_unanswered end early = early_unsaid has_answered refl refl refl end early

pub put_answered : {out put : SinkState} (end : Result (Unit {0}) StopReason) → PutsUpgraded out put end
    → has_answered (status_at end) ≡ true
put_answered (Ok done) puts = refl
put_answered (Err why) puts =
    ap (λ (e : Result (Unit {0}) StopReason). has_answered (status_at e)) puts.only

-- it ended with no status of a file whose store wasn't begun with
pub not_three : {out put : SinkState} (end : Result (Unit {0}) StopReason) → PutsUpgraded out put end
    → (status_at end ≡ NO_FILE) ⊎ (status_at end ≡ NO_MEMORY) → ⊥
not_three (Ok done) puts is = omega (arith, is)
not_three (Err why) puts is =
    omega (arith, is, ap (λ (e : Result (Unit {0}) StopReason). status_at e) puts.only)
