-- How a batch ends by its answer, and what was put.
use Rattle.std.specs.Prelude.{◌≡◌, Bool, true, false, List, ℕ, Result, Ok, Err, refl}
use Rattle.std.proofs.Common.{ap, sym, subst}
use Rattle.disk_face.specs.Streams.{SinkState}
use Rattle.command_face.specs.Layers.{Answers}
use Rattle.command_face.specs.Outcomes.{EndsBy, status_at, status_of}
use Rattle.command_face.specs.declared.stop.StopReason.{StopReason}
use Rattle.served_file.proofs.AlwaysLaws.{early_unsaid}
use Rattle.served_file.proofs.StartLaws.{IsEarly}
use Rattle.batch_core.specs.declared.fault.BatchFault.{BatchFault}
use Rattle.batch_core.specs.declared.fault.BatchFault.TheVariants as fault
use Rattle.batch_command.specs.Batching.{has_applied}
use Rattle.batch_command.specs.Doing.{PutsReply, line_for, reason_of}

module _ (answer : Result (List ℕ) StopReason → Type 0) (out put : SinkState) where
  -- the line was put, or the sink failed
  pub answers_line : (kept : Bool) (end : Result (Unit {0}) StopReason) → answer (Ok (line_for kept))
      → PutsReply kept out put end → Answers answer out put end
  answers_line kept (Ok done) is puts = record { bytes = line_for kept; ends = is; puts = puts.puts }
  answers_line kept (Err why) is puts = record {
    bytes = line_for kept;
    ends = subst (EndsBy answer (line_for kept)) (sym puts.only) is;
    puts = puts.puts;
  }

-- ---- the statuses

pub early_unapplied : (end : Result (Unit {0}) StopReason) → IsEarly end
    → has_applied (status_at end) ≡ false
early_unapplied end early = early_unsaid has_applied refl refl refl end early

pub fault_unapplied : (why : BatchFault) → has_applied (status_of (reason_of why)) ≡ false
fault_unapplied fault.Broken = refl
fault_unapplied fault.Damaged = refl
fault_unapplied fault.NoBatch = refl
fault_unapplied (fault.Line n) = refl
fault_unapplied (fault.Unfit n) = refl
fault_unapplied fault.Worn = refl
fault_unapplied fault.Disk = refl

pub line_applied : {kept : Bool} {out put : SinkState} (end : Result (Unit {0}) StopReason)
    → PutsReply kept out put end → has_applied (status_at end) ≡ true
line_applied (Ok done) puts = refl
line_applied (Err why) puts = ap (λ (e : Result (Unit {0}) StopReason). has_applied (status_at e)) puts.only
