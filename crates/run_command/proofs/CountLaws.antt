-- How many requests were answered and are kept, however the command went.
use Rattle.std.specs.Prelude.{◌≡◌, ◌≢◌, ◌↔◌, ℕ, ◌+◌, ◌≤◌, Bool, true, false, if◌then◌else◌, List, [], ◌∷◌, length, IsTrue, refl}
use Rattle.std.proofs.Common.{arith, ap, sym, ◌∙◌, subst, inl, inr}
use Rattle.disk_face.specs.Counts.{counted, last}
use Rattle.disk_face.specs.Mounts.{is_mounted}
use Rattle.size_class.specs.declared.TheConstants.{CLASSES}
use Rattle.map_model.specs.Requests.{Reply, Request}
use Rattle.store_model.specs.Connection.{StoreValue, limits_of, state_of}
use Rattle.store_model.specs.States.{Chain, Limits, State}
use Rattle.ask_session.specs.Serving.{acknowledges}
use Rattle.ask_session.specs.Outside.{Held, Seen, held}
use Rattle.ask_session.specs.Sittings.{Sitting, new_sitting}
use Rattle.ask_session.specs.Runs.{EndsRun, budget, last_kept}
use Rattle.ask_session.specs.Turns.{SameCounts}
use Rattle.ask_text.specs.declared.ends.End.{End}
use Rattle.ask_text.specs.declared.ends.End.TheVariants as ends
use Rattle.command_face.specs.declared.status.TheConstants.{TOO_MANY_REQUESTS}
use Rattle.command_face.specs.Refusing.{stop_of}
use Rattle.run_command.specs.Headline.{HasMounted}
use Rattle.command_face.specs.Outcomes.{status_at, status_of}
use Rattle.run_command.specs.Sessions.{HasCounted, OpenRunSteps, RunSteps, ended_as, outcome_of, unserved}
use Rattle.command_face.specs.declared.stop.StopReason.{StopReason}
use Rattle.command_face.specs.declared.stop.StopReason.TheVariants as stop
use Rattle.run_command.specs.declared.run.SessionEnd.{SessionEnd}
use Rattle.run_command.proofs.ClauseLaws.{session_keeps}
use Rattle.command_face.proofs.UnopenedLaws.{not_status}
use Rattle.ask_session.proofs.GrowingLaws.{chain_long}
use Rattle.served_file.specs.Ends.{end_of}

-- no more are kept than were answered
kept_within : (done kept : ℕ) (replies : List Reply) → kept ≤ done → done + length replies ≤ last
    → last_kept done kept replies ≤ done + length replies
kept_within done kept [] low few = omega (arith, low)
kept_within done kept (reply ∷ replies) low few =
    let one : counted done 1 ≡ done + 1 = omega (arith, few) in
    let rest = kept_within (counted done 1) (if acknowledges reply then counted done 1 else kept) replies
    (next (acknowledges reply)) (omega (arith, few, one)) in
    omega (arith, rest, one)
  where
    next : (is : Bool) → (if is then counted done 1 else kept) ≤ counted done 1
    next true = omega arith
    next false = omega (arith, low, few)

-- no session was begun
none_counted : (why : StopReason) (turn : ℕ) (told mounted : Type 0) → status_of why ≢ TOO_MANY_REQUESTS
    → HasCounted (outcome_of (unserved why turn)) told mounted
none_counted why turn told mounted other = record {
  none = λ is. (refl, refl);
  few = omega arith;
  limit = (λ is. absurd (other is), λ is. absurd (omega (arith, is)));
  kept = λ is. omega arith;
}

module _ {D I O : Type 0} (seen : Seen D I O) (start now : Held D I O) (s : StoreValue) (new : Sitting)
    (told mounted : Type 0) (tells : told → IsTrue (seen.disk start.disk).tells) (there : mounted) where
  abbrev Session : End → Type 0
  Session how = EndsRun seen CLASSES (new_sitting s (seen.disk start.disk).turn) new start now how

  abbrev HasThese : End → Type 0
  HasThese how = HasCounted (outcome_of (ended_as how new)) told mounted

  module _ (how : End) (y : Session how) (same : SameCounts y.sitting new) where
    done_is : new.done ≡ y.n
    done_is = omega (arith, same.done, y.ran.done, y.few)

    numbers : (status_at (end_of how new.done) ≡ TOO_MANY_REQUESTS) ↔ (new.done ≡ budget) → HasThese how
    numbers limit = record {
      none = λ is. elim is as (λ _. (new.done ≡ 0) × (new.kept_done ≡ 0)) [
        | inl unserved ↦ absurd ((session_keeps seen start now s new how y).served unserved)
        | inr gone ↦ absurd (gone there)
      ];
      few = omega (arith, done_is, y.few);
      limit = limit;
      kept = λ is.
          let long = chain_long (limits_of s) (state_of s (seen.disk start.disk).file) y.ran.requests
          y.ran.replies y.ran.states (y.ran.chain (tells is)) in
          let within = kept_within 0 0 y.ran.replies (omega arith)
          (omega (arith, long, y.ran.count, y.few)) in
          omega (arith, same.kept_done, y.ran.kept_done (tells is), within, long, y.ran.count, done_is);
    }

    -- it ended before as many were answered as may be
    before : (status_at (end_of how new.done) ≢ TOO_MANY_REQUESTS) → y.n ≢ budget → HasThese how
    before other fewer = numbers (λ is. absurd (other is), λ is. absurd (fewer (sym done_is ∙ is)))

  session_counted : (how : End) → Session how → HasThese how
  session_counted ends.End y =
      before ends.End y y.last_turn.0.counts (λ is. omega (arith, is)) (λ is. omega (arith, is, y.fewer refl))
  session_counted ends.Line y =
      before ends.Line y y.last_turn.0.counts (λ is. omega (arith, is))
      (λ is. omega (arith, is, y.fewer refl))
  session_counted ends.Source y =
      before ends.Source y y.last_turn.counts (λ is. omega (arith, is))
      (λ is. omega (arith, is, y.fewer refl))
  session_counted ends.Disk y =
      before ends.Disk y y.last_turn.counts (λ is. omega (arith, is)) (λ is. omega (arith, is, y.fewer refl))
  session_counted ends.Sink y =
      before ends.Sink y y.last_turn.counts (λ is. omega (arith, is)) (λ is. omega (arith, is, y.fewer refl))
  session_counted ends.Budget y =
      let same : SameCounts y.sitting new = record {
        done = ap (λ (x : Sitting). x.done) y.last_turn.1;
        kept_done = ap (λ (x : Sitting). x.kept_done) y.last_turn.1;
        kept_turn = ap (λ (x : Sitting). x.kept_turn) y.last_turn.1;
      } in
      numbers ends.Budget y same (λ is. done_is ends.Budget y same ∙ y.last_turn.0, λ is. refl)

module _ {D I O : Type 0} (seen : Seen D I O) (file : List ℕ) (before now : Held D I O)
    (e : SessionEnd) where
  abbrev All : SessionEnd → Type 0
  All x = HasCounted (outcome_of x) (IsTrue (seen.disk before.disk).tells) (HasMounted (seen.disk now.disk))

  none_of : (why : StopReason) (turn : ℕ) → status_of why ≢ TOO_MANY_REQUESTS → e ≡ unserved why turn → All e
  none_of why turn other is = subst All (sym is)
      (none_counted why turn (IsTrue (seen.disk before.disk).tells) (HasMounted (seen.disk now.disk)) other)

  pub has_counted : RunSteps seen file before now e → All e
  has_counted (inl (is, source, sink)) = elim is.which as (λ _. All e) [
    | inl failed ↦ none_of stop.Disk 0 (λ n. omega (arith, n)) failed.0
    | inr gone ↦ none_of stop.NoFile 0 (λ n. omega (arith, n)) gone.0
  ]
  has_counted (inr x) = by x.steps
    where
      by : OpenRunSteps seen (held x.first before.source before.sink) now e → All e
      by (inl (inl is, source, sink)) = none_of (stop_of is.fault) (seen.disk now.disk).turn
          (not_status is.fault TOO_MANY_REQUESTS (λ n. omega (arith, n)) (λ n. omega (arith, n))
          (λ n. omega (arith, n)))
          is.ended
      by (inl (inr is, source, sink)) =
          none_of stop.NoMemory (seen.disk now.disk).turn (λ n. omega (arith, n)) is.ended
      by (inr y) =
          let begun = held y.mid before.source before.sink in
          let keeps = session_keeps seen begun now y.store y.new y.end y.ran in
          let stays = y.opening.frame.stays in
          subst All (sym y.ended)
          (session_counted seen begun now y.store y.new (IsTrue (seen.disk before.disk).tells)
          (HasMounted (seen.disk now.disk))
          (λ told. stays.told ∙ x.mount.told ∙ told)
          (ap is_mounted (keeps.same_mount ∙ stays.same_mount ∙ x.there)) y.end y.ran)
