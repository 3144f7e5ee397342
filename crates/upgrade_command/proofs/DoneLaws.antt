-- What an upgrade of an open store keeps of the devices, and the statuses that it ends with.
use Rattle.std.specs.Prelude.{◌≡◌, ◌≢◌, ◌⊎◌, ℕ, Result, Ok, Err, refl}
use Rattle.std.proofs.Common.{arith, ap, sym, ◌∙◌, subst, inl, inr}
use Rattle.disk_face.specs.Devices.{Devices}
use Rattle.disk_face.specs.Frames.{Unchanged}
use Rattle.disk_face.specs.Writes.{KeepsDisk}
use Rattle.disk_face.specs.States.{State}
use Rattle.size_class.specs.declared.TheConstants.{CLASSES}
use Rattle.store_model.specs.Connection.{StoreValue}
use Rattle.store_model.specs.Opened.{IsFresh}
use Rattle.command_face.specs.Layers.{HasCausesAt}
use Rattle.command_face.specs.Outcomes.{status_at, status_of}
use Rattle.command_face.specs.declared.status.TheConstants.{DISK_FAILED, DONE, NO_FILE, NO_STORE, SINK_FAILED, TOO_MANY_NAMES, WORN}
use Rattle.command_face.specs.declared.stop.StopReason.{StopReason}
use Rattle.command_face.specs.declared.stop.StopReason.TheVariants as stop
use Rattle.served_file.proofs.StepsLaws.{KeepsDone, sinkless}
use Rattle.upgrade_command.specs.Doing.{IsUpgrade, PutsUpgraded}
use Rattle.upgrade_command.proofs.IdleLaws.{Idle, WasFailed, WasIdle, WasSaved, either, was_done, was_idle}
use Rattle.upgrade_command.proofs.IdleLaws.Idle.{already, many, worn}
use Rattle.disk_face.proofs.FrameLaws.{keeps_unchanged}

-- The end of a call that kept the devices, by how it came: the line was put, or the sink failed; it was
-- refused and nothing was put; or the disk failed and nothing was put.
pub data HowEnded (a b : Devices) (end : Result (Unit {0}) StopReason) : Type 0 where
  put : (status_at end ≡ DONE) ⊎ (status_at end ≡ SINK_FAILED) → HowEnded a b end
  refused : (status_at end ≡ TOO_MANY_NAMES) ⊎ (status_at end ≡ WORN) → b.sink ≡ a.sink → HowEnded a b end
  failed : status_at end ≡ DISK_FAILED → b.sink ≡ a.sink → HowEnded a b end

pub record Ended (a b : Devices) (end : Result (Unit {0}) StopReason) : Type 0 where
  pub frame : KeepsDisk a.disk b.disk
  pub causes : HasCausesAt a.disk b.disk a.sink b.sink end
  pub how : HowEnded a b end

module _ (a b : Devices) where
  -- the line was put, or the sink failed
  ended_put : (end : Result (Unit {0}) StopReason) → KeepsDisk a.disk b.disk → b.disk.faults ≡ a.disk.faults
      → PutsUpgraded a.sink b.sink end → Ended a b end
  ended_put (Ok done) frame calm puts = record {
    frame = frame;
    causes = record {
      later = omega (arith, calm);
      rose = λ is. absurd (cc);
      calm = λ is. calm;
      sink_later = puts.cause.later;
      sink_rose = λ is. absurd (cc);
      sink_calm = λ is. puts.cause.calm;
      sink_told = puts.told;
    };
    how = HowEnded.put (inl refl);
  }
  ended_put (Err why) frame calm puts = record {
    frame = frame;
    causes = record {
      later = omega (arith, calm);
      rose = λ is.
          let only = puts.only in
          let e : stop.Sink ≡ stop.Disk = cc in
          absurd (cc);
      calm = λ is. calm;
      sink_later = puts.cause.later;
      sink_rose = λ is. puts.cause.rose;
      sink_calm = λ is. absurd (cc);
      sink_told = puts.told;
    };
    how = HowEnded.put (inr (ap (λ (e : Result (Unit {0}) StopReason). status_at e) puts.only));
  }

  -- it was refused, and nothing was put
  ended_refused : (why : StopReason) (end : Result (Unit {0}) StopReason) → end ≡ Err why
      → (status_of why ≡ TOO_MANY_NAMES) ⊎ (status_of why ≡ WORN)
      → why ≢ stop.Disk → why ≢ stop.Sink → KeepsDisk a.disk b.disk → b.disk.faults ≡ a.disk.faults
      → b.sink ≡ a.sink → Ended a b end
  ended_refused why end is which disk sink frame calm same = subst (Ended a b) (sym is) (record {
    frame = frame;
    causes = sinkless a.disk b.disk a.sink b.sink (Err why) same (omega (arith, calm))
        (λ e. absurd (disk (cc))) (λ e. calm) (λ e. sink (cc));
    how = HowEnded.refused which same;
  })

  ended_idle : (s : StoreValue) (i : Idle) (end : Result (Unit {0}) StopReason) → WasIdle s i a b end
      → Ended a b end
  ended_idle s already end was = ended_put end (keeps_unchanged was.disk) was.calm was.ends
  ended_idle s many end was = ended_refused (stop.TooManyNames _) end was.ends.0 (inl refl) (λ e. absurd (cc))
      (λ e. absurd (cc)) (keeps_unchanged was.disk) was.calm was.ends.1
  ended_idle s worn end was = ended_refused stop.Worn end was.ends.0 (inr refl) (λ e. absurd (cc))
      (λ e. absurd (cc)) (keeps_unchanged was.disk) was.calm was.ends.1

  ended_saved : (s : StoreValue) (end : Result (Unit {0}) StopReason) → WasSaved s a b end → Ended a b end
  ended_saved s end was = ended_put end was.upgrades.frame was.upgrades.calls.cause.calm was.puts

  ended_failed : (s : StoreValue) (end : Result (Unit {0}) StopReason) → WasFailed s a b end → Ended a b end
  ended_failed s end was = subst (Ended a b) (sym was.ended) (record {
    frame = was.upgrades.frame;
    causes = sinkless a.disk b.disk a.sink b.sink (Err stop.Disk) was.nothing was.upgrades.calls.cause.later
        (λ e. was.upgrades.calls.cause.rose) (λ other. absurd (other refl)) (λ e. absurd (cc));
    how = HowEnded.failed refl was.nothing;
  })

  pub ended : (s : StoreValue) (end : Result (Unit {0}) StopReason) → IsFresh CLASSES s → IsUpgrade s a b end
      → Ended a b end
  ended s end fresh x = elim (either s fresh.store a.disk.file fresh.whole) as (λ _. Ended a b end) [
    | inl idle ↦ ended_idle s idle.0 end (was_idle s fresh.store fresh.whole a b end x idle.0 idle.1)
    | inr todo ↦ elim (was_done s fresh.store fresh.whole a b end x todo.store) as (λ _. Ended a b end) [
      | inl saved ↦ ended_saved s end saved
      | inr gone ↦ ended_failed s end gone
    ]
  ]

  -- it ends with no status of a file that wasn't opened
  not_by : (end : Result (Unit {0}) StopReason) (n : ℕ) → HowEnded a b end → n ≢ DONE → n ≢ SINK_FAILED
      → n ≢ TOO_MANY_NAMES → n ≢ WORN → n ≢ DISK_FAILED → status_at end ≢ n
  not_by end n (HowEnded.put (inl e)) done sink names w disk is = done (sym is ∙ e)
  not_by end n (HowEnded.put (inr e)) done sink names w disk is = sink (sym is ∙ e)
  not_by end n (HowEnded.refused (inl e) same) done sink names w disk is = names (sym is ∙ e)
  not_by end n (HowEnded.refused (inr e) same) done sink names w disk is = w (sym is ∙ e)
  not_by end n (HowEnded.failed e same) done sink names w disk is = disk (sym is ∙ e)

  pub keeps_done : (s : StoreValue) (end : Result (Unit {0}) StopReason) → IsFresh CLASSES s
      → IsUpgrade s a b end → KeepsDone a b end
  keeps_done s end fresh x =
      let e = ended s end fresh x in
      record {
        frame = e.frame;
        causes = e.causes;
        there = not_by end NO_FILE e.how (λ n. omega (arith, n)) (λ n. omega (arith, n))
            (λ n. omega (arith, n)) (λ n. omega (arith, n)) (λ n. omega (arith, n));
        store = not_by end NO_STORE e.how (λ n. omega (arith, n)) (λ n. omega (arith, n))
            (λ n. omega (arith, n)) (λ n. omega (arith, n)) (λ n. omega (arith, n));
      }
