-- What the command that serves requests keeps, however it went.
use Rattle.std.specs.Prelude.{◌≡◌, ◌≢◌, ℕ, ◌≤◌, true, Result, Err, refl}
use Rattle.std.proofs.Common.{arith, ap, ◌∙◌, subst, inl, inr}
use Rattle.disk_face.specs.Counts.{Rose}
use Rattle.size_class.specs.declared.TheConstants.{CLASSES}
use Rattle.store_model.specs.Connection.{StoreValue}
use Rattle.ask_session.specs.Outside.{Held, Outside, Seen, outside_of}
use Rattle.ask_session.specs.Sittings.{Sitting, new_sitting}
use Rattle.ask_session.specs.Runs.{EndsRun}
use Rattle.ask_session.specs.Inputs.{is_source}
use Rattle.ask_session.specs.Turns.{IsStopped}
use Rattle.ask_text.specs.declared.ends.End.{End}
use Rattle.ask_text.specs.declared.ends.End.TheVariants as ends
use Rattle.command_face.specs.declared.status.TheConstants.{DISK_FAILED, DONE, FAULTY_REQUEST, NO_FILE, NO_MEMORY, NO_STORE, SINK_FAILED, SOURCE_FAILED, TOO_MANY_REQUESTS}
use Rattle.command_face.specs.Outcomes.{status_at}
use Rattle.run_command.specs.Sessions.{IsUnserved}
use Rattle.command_face.specs.declared.stop.StopReason.{StopReason}
use Rattle.served_file.specs.Ends.{end_of}

-- what the session's devices are once it ended
pub record SessionKeeps (before now : Outside) (end : Result (Unit {0}) StopReason) (kept_turn : ℕ)
    : Type 0 where
  pub later : before.disk.faults ≤ now.disk.faults
  pub rose : status_at end ≡ DISK_FAILED → Rose before.disk.faults now.disk.faults
  pub no_turn_back : before.disk.turn ≤ now.disk.turn
  pub told : now.disk.tells ≡ before.disk.tells
  pub images_told : now.disk.tells_images ≡ before.disk.tells_images
  pub same_mount : now.disk.last_mount ≡ before.disk.last_mount
  pub source_later : before.source.faults ≤ now.source.faults
  pub source_rose : status_at end ≡ SOURCE_FAILED → Rose before.source.faults now.source.faults
  pub sink_later : before.sink.faults ≤ now.sink.faults
  pub sink_rose : status_at end ≡ SINK_FAILED → Rose before.sink.faults now.sink.faults
  pub sink_calm : status_at end ≡ DONE → now.sink.faults ≡ before.sink.faults
  pub sink_told : now.sink.tells ≡ before.sink.tells
  pub turn_low : before.disk.turn ≤ kept_turn
  pub turn_high : kept_turn ≤ now.disk.turn
  pub served : IsUnserved (status_at end) → ⊥

module _ {D I O : Type 0} (seen : Seen D I O) (before now : Held D I O) (s : StoreValue) (new : Sitting) where
  abbrev Session : End → Type 0
  Session how = EndsRun seen CLASSES (new_sitting s (seen.disk before.disk).turn) new before now how

  abbrev KeepsAs : End → Type 0
  KeepsAs how = SessionKeeps (outside_of seen before) (outside_of seen now) (end_of how new.done)
      new.kept_turn

  none_of : (n : ℕ) → n ≢ NO_FILE → n ≢ NO_STORE → n ≢ NO_MEMORY → IsUnserved n → ⊥
  none_of n three four ten (inl is) = three is
  none_of n three four ten (inr (inl is)) = four is
  none_of n three four ten (inr (inr is)) = ten is

  module _ (how : End) (y : Session how) where
    -- no request was served in the last turn
    quietly : now.disk ≡ y.mid.disk → now.sink ≡ y.mid.sink → new.kept_turn ≡ y.sitting.kept_turn
        → (status_at (end_of how new.done) ≢ DISK_FAILED) → (status_at (end_of how new.done) ≢ SINK_FAILED)
        → (status_at (end_of how new.done) ≡ SOURCE_FAILED → is_source how ≡ true)
        → (IsUnserved (status_at (end_of how new.done)) → ⊥) → KeepsAs how
    quietly disk sink turn seven nine eight served = record {
      later = omega (arith, y.ran.disk_later, ap (λ (d : D). (seen.disk d).faults) disk);
      rose = λ is. absurd (seven is);
      no_turn_back = omega (arith, y.ran.frame.no_turn_back, ap (λ (d : D). (seen.disk d).turn) disk);
      told = ap (λ (d : D). (seen.disk d).tells) disk ∙ y.ran.frame.stays.told;
      images_told = ap (λ (d : D). (seen.disk d).tells_images) disk ∙ y.ran.frame.stays.images_told;
      same_mount = ap (λ (d : D). (seen.disk d).last_mount) disk ∙ y.ran.frame.stays.same_mount;
      source_later = omega (arith, y.cause.later, y.ran.source_calm);
      source_rose = λ is. subst (λ (n : ℕ). Rose n (seen.source now.source).faults) y.ran.source_calm
          (y.cause.rose (eight is));
      sink_later = omega (arith, y.ran.sink_calm, ap (λ (x : O). (seen.sink x).faults) sink);
      sink_rose = λ is. absurd (nine is);
      sink_calm = λ is. ap (λ (x : O). (seen.sink x).faults) sink ∙ y.ran.sink_calm;
      sink_told = ap (λ (x : O). (seen.sink x).tells) sink ∙ y.ran.sink_told;
      turn_low = omega (arith, turn, y.ran.turn_rises (omega arith));
      turn_high = omega (arith, turn, y.ran.kept_turn (omega arith), ap (λ (d : D). (seen.disk d).turn) disk);
      served = served;
    }

    -- a device failed in the last turn
    stopped : (bad : End)
        → IsStopped CLASSES y.sitting new (outside_of seen y.mid) (outside_of seen now) bad
        → (status_at (end_of how new.done) ≡ DISK_FAILED → bad ≡ ends.Disk)
        → (status_at (end_of how new.done) ≡ SINK_FAILED → bad ≡ ends.Sink)
        → (status_at (end_of how new.done) ≢ SOURCE_FAILED) → (status_at (end_of how new.done) ≢ DONE)
        → (IsUnserved (status_at (end_of how new.done)) → ⊥) → KeepsAs how
    stopped bad x seven nine eight none served =
        let r = x.served.replies in
        let f = r.serves.frame in
        record {
          later = omega (arith, y.ran.disk_later, r.disk_cause.later);
          rose = λ is. rose_later (seen.disk before.disk).faults (seen.disk y.mid.disk).faults
              (seen.disk now.disk).faults y.ran.disk_later
              (r.disk_cause.rose (ap (λ (x : End). Err x) (seven is)));
          no_turn_back = omega (arith, y.ran.frame.no_turn_back, f.no_turn_back);
          told = f.stays.told ∙ y.ran.frame.stays.told;
          images_told = f.stays.images_told ∙ y.ran.frame.stays.images_told;
          same_mount = f.stays.same_mount ∙ y.ran.frame.stays.same_mount;
          source_later = omega (arith, y.cause.later, y.ran.source_calm);
          source_rose = λ is. absurd (eight is);
          sink_later = omega (arith, y.ran.sink_calm, r.sink_cause.later);
          sink_rose = λ is. subst (λ (n : ℕ). Rose n (seen.sink now.sink).faults) y.ran.sink_calm
              (r.sink_cause.rose (ap (λ (x : End). Err x) (nine is)));
          sink_calm = λ is. absurd (none is);
          sink_told = r.sink_cause.told ∙ y.ran.sink_told;
          turn_low = omega (arith, x.counts.kept_turn, y.ran.turn_rises (omega arith));
          turn_high = omega (arith, x.counts.kept_turn, y.ran.kept_turn (omega arith), f.no_turn_back);
          served = served;
        }
      where
        rose_later : (a b c : ℕ) → a ≤ b → Rose b c → Rose a c
        rose_later a b c low rose = omega (arith, low, rose)

  pub session_keeps : (how : End) → Session how → KeepsAs how
  session_keeps ends.End y = quietly ends.End y (y.same_disk refl)
      (y.same_sink refl) y.last_turn.0.counts.kept_turn
      (λ is. omega (arith, is)) (λ is. omega (arith, is)) (λ is. absurd (omega (arith, is)))
      (none_of DONE (λ is. omega (arith, is)) (λ is. omega (arith, is)) (λ is. omega (arith, is)))
  session_keeps ends.Line y = quietly ends.Line y (y.same_disk refl) (y.same_sink refl)
      y.last_turn.0.counts.kept_turn
      (λ is. omega (arith, is)) (λ is. omega (arith, is)) (λ is. absurd (omega (arith, is)))
      (none_of FAULTY_REQUEST (λ is. omega (arith, is)) (λ is. omega (arith, is)) (λ is. omega (arith, is)))
  session_keeps ends.Source y = quietly ends.Source y (y.same_disk refl) (y.same_sink refl)
      y.last_turn.counts.kept_turn
      (λ is. omega (arith, is)) (λ is. omega (arith, is)) (λ is. refl)
      (none_of SOURCE_FAILED (λ is. omega (arith, is)) (λ is. omega (arith, is)) (λ is. omega (arith, is)))
  session_keeps ends.Budget y = quietly ends.Budget y (y.same_disk refl) (y.same_sink refl)
      (ap (λ (x : Sitting). x.kept_turn) y.last_turn.1)
      (λ is. omega (arith, is)) (λ is. omega (arith, is)) (λ is. absurd (omega (arith, is)))
      (none_of TOO_MANY_REQUESTS (λ is. omega (arith, is)) (λ is. omega (arith, is))
      (λ is. omega (arith, is)))
  session_keeps ends.Disk y = stopped ends.Disk y ends.Disk y.last_turn (λ is. refl)
      (λ is. absurd (omega (arith, is))) (λ is. omega (arith, is)) (λ is. omega (arith, is))
      (none_of DISK_FAILED (λ is. omega (arith, is)) (λ is. omega (arith, is)) (λ is. omega (arith, is)))
  session_keeps ends.Sink y = stopped ends.Sink y ends.Sink y.last_turn (λ is. absurd (omega (arith, is)))
      (λ is. refl) (λ is. omega (arith, is)) (λ is. omega (arith, is))
      (none_of SINK_FAILED (λ is. omega (arith, is)) (λ is. omega (arith, is)) (λ is. omega (arith, is)))
