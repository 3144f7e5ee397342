-- The headline where no session was begun.
use Rattle.std.specs.Prelude.{◌≡◌, ℕ, true, false, List, IsTrue, refl, ◌≢◌, ◌+◌, ◌<◌, ◌≤◌, ◌==◌, Bool, if◌then◌else◌, [], ◌++◌, length, Result}
use Rattle.std.proofs.Common.{arith, sym, ap, ◌∙◌, subst, inl, inr, append-nil}
use Rattle.size_class.specs.declared.TheConstants.{CLASSES, SIZE_MAX}
use Rattle.slot_codec.specs.Choice as choice
use Rattle.slot_codec.specs.declared.codec.Kind.TheVariants as kind
use Rattle.map_model.specs.Maps.{Map}
use Rattle.segment_layout.specs.Books.{Book, book_end}
use Rattle.table_rules.specs.Opening.{Opens}
use Rattle.served_file.specs.Served.{IsNextStart, OpensTo, Starts, limits_with, turn_opened, found_with}
use Rattle.command_face.specs.declared.status.TheConstants.{DONE, FAULTY_REQUEST, NO_MEMORY, SINK_FAILED, TOO_MANY_REQUESTS}
use Rattle.command_face.specs.Outcomes.{PutsLast, line_at, status_at}
use Rattle.disk_face.specs.Counts.{IsCalm, Rose, last}
use Rattle.disk_face.specs.States.{IsLawful, State}
use Rattle.disk_face.specs.Moments.{Leaves, LeftOnly}
use Rattle.disk_face.specs.Streams.{SinkState, SourceState}
use Rattle.disk_face.proofs.MomentLaws.{LeftOnly-after}
use Rattle.slot_codec.specs.Spelling.{head_len}
use Rattle.slot_codec.specs.declared.codec.SuperBlock.{SuperBlock}
use Rattle.map_model.specs.Requests.{Request}
use Rattle.store_model.specs.States as store
use Rattle.store_model.specs.Opened.{IsFoundImage, LeavesRoom, RestsOnFound}
use Rattle.ask_session.specs.Runs.{last_state}
use Rattle.ask_session.proofs.RunLaws.{opens_with}
use Rattle.run_command.specs.Headline.{HasMounted, HowFar, IsLong, NumbersLine, RunHolds, has_opened, is_session, is_whole, next_reply, next_saves, next_states, served_states}
use Rattle.served_file.proofs.OpeningLaws.{found_numbered, start_low}
use Rattle.command_face.specs.declared.stop.StopReason.{StopReason}
use Rattle.command_face.specs.declared.outcome.Outcome.{Outcome}
use Rattle.disk_face.specs.Devices.{devices}

pub never_true : IsTrue false → ⊥
never_true is = let e : true ≡ false = sym is in absurd (cc)

-- how far a call came that answered no request
pub none_far : (status : ℕ) (requests : List Request) (end : List ℕ) (from rest : SourceState)
    → is_session status ≡ true → status ≢ DONE → status ≢ FAULTY_REQUEST → status ≢ SINK_FAILED
    → status ≢ TOO_MANY_REQUESTS
    → (status ≡ NO_MEMORY → rest ≡ from) → HowFar status 0 requests end from rest
none_far status requests end from rest known done line sink limit memory = record {
  known = known;
  done = λ is. absurd (done is);
  line = λ is. absurd (line is);
  absent = λ _. refl;
  disk = λ _. inr refl;
  sink = λ is. absurd (sink is);
  memory = λ is. (refl, memory is);
  few = omega arith;
  limit = (λ is. absurd (limit is), λ is. absurd (omega (arith, is)));
}

module _ {t : choice.SlotTable} {m : Map} {b : Book} {old z : State}
    (u : SuperBlock) (start : store.State) (starts : Starts t m b start) (lawful : IsLawful z)
    (left_before : old.turn < last → RestsOnFound t old
    → LeftOnly old old.turn (IsFoundImage CLASSES t m b (length old.file)))
    (later : old.turn ≤ z.turn)
    (left : LeavesRoom t → RestsOnFound t old → Leaves old z (IsFoundImage CLASSES t m b (length old.file)))
    (settled_long : RestsOnFound t old → z.turn < last → IsCalm old.faults z.faults
    → t.chosen.header.kind ≡ kind.Settled → turn_opened t b old ≤ z.turn → LeftOnly z (turn_opened t b old)
    (λ image. length image ≡ head_len u.names + book_end u.k start.book)) where
  found_start : (image : List ℕ) → Opens CLASSES SIZE_MAX image m b → OpensTo start image
  found_start image is = opens_with image (ap (λ (y : store.State). y.map) starts.state)
      (ap (λ (y : store.State). y.book) starts.state) is

  left_found : LeavesRoom t → RestsOnFound t old → z.turn < last
      → LeftOnly z old.turn (IsFoundImage CLASSES t m b (length old.file))
  left_found room rests below = LeftOnly-after old.turn (IsFoundImage CLASSES t m b (length old.file))
      (omega arith)
      (left_before (omega (arith, later, below)) rests) (left room rests)

  module _ (requests : List Request) (end : List ℕ) (from rest : SourceState) (out after : SinkState)
      (status kept_turn : ℕ)
      (not_nine : (status == SINK_FAILED) ≡ false) (not_whole : is_whole status ≡ false)
      (nine : status ≢ SINK_FAILED)
      (since : HasMounted z → kept_turn ≡ z.turn)
      (told : IsCalm old.faults z.faults → IsTrue (has_opened status) → ⊥)
      (next : IsCalm old.faults z.faults → IsNextStart t start start.sequence old z)
      (ending : Result (Unit {0}) StopReason) (status_is : status ≡ status_at ending)
      (numbered : NumbersLine 0 ending)
      (line : IsTrue out.tells → PutsLast out.given after.given (line_at ending)
      (Rose out.faults after.faults))
      (far : HowFar status 0 requests end from rest) where
    abbrev counts : Outcome
    counts = record { status = status; done = 0; kept_done = 0; kept_turn = kept_turn }

    same_states : served_states status (limits_with u) start [] requests ≡ []
    same_states =
        ap (λ (x : Bool). if x then [] ++ next_states (limits_with u) start requests else []) not_nine

    pub unserved_runs : RunHolds (found_with u t m b) requests end counts (devices old out) (devices z after)
        from rest
    unserved_runs = record {
      start = start;
      starts = starts;
      continues = λ is. absurd (elim is as (λ _. ⊥) [
        | inl whole ↦ (let e : true ≡ false = sym whole ∙ not_whole in absurd (cc))
        | inr is_nine ↦ nine is_nine
      ]);
      ran = record {
        answered = [];
        others = requests;
        split = refl;
        count = refl;
        replies = [];
        states = [];
        chain = tt;
      };
      far = far;
      replies = λ told. record {
        between = out.given;
        partial = [];
        end = ending;
        put = sym (append-nil (out.given ++ []) ∙ append-nil out.given);
        front = record {
          none = λ _. refl;
          front = (next_reply (limits_with u) start requests, refl);
          cut = λ _ _. refl;
          changing = λ _ _. refl;
        };
        same_status = status_is;
        numbered = numbered;
        line = line told;
      };
      between = λ is. absurd (elim is as (λ _. ⊥) [
        | inl whole ↦ (let e : true ≡ false = sym whole ∙ not_whole in absurd (cc))
        | inr is_nine ↦ nine is_nine
      ]);
      within = λ calm room rests below. subst (λ (xs : List store.State). IsLong u.k (head_len u.names) t
          (turn_opened t b old) start xs old z) (sym same_states) (record {
            settled = λ settled low image is. inl (settled_long rests below calm settled low image is);
            moving = λ moving image is. inl (left_found room rests below image is).no_longer;
          });
      opened = λ calm settled has. absurd (told calm has);
      crash = λ room rests below. record {
        crash = λ image is. inl (inl (found_start image (left_found room rests below image is).opens));
        since = λ mounted image is. inl
            (found_start image (left_found room rests below image (lawful.counts_now old.turn
            image later (lawful.only_now image below (subst (λ (k : ℕ). z.left_since k image) (since mounted)
            is)))).opens);
        safe = λ is. absurd (nine is);
      };
      numbered = λ room rests below image is.
          found_numbered t m b (length old.file) u.k image (left_found room rests below image is);
      acknowledged = record {
        number = refl;
        turns = λ whole. absurd (let e : true ≡ false = sym whole ∙ not_whole in cc);
      };
      failed = λ seven mounted. inr (omega (arith, since mounted, lawful.turn_fits));
      next_start = λ calm.
          let q = start.sequence
          + (if status == SINK_FAILED then next_saves (limits_with u) start requests else 0) in
          let is : start.sequence ≡ q = sym (ap (λ (x : Bool). start.sequence
          + (if x then next_saves (limits_with u) start requests else 0)) not_nine ∙ omega arith) in
          subst (λ (xs : List store.State). IsNextStart t (last_state start xs) q old z) (sym same_states)
          (subst (λ (k : ℕ). IsNextStart t start k old z) is (next calm));
      reach = omega (
        arith,
        start_low t u.k start.sequence starts.sequence,
        ap (λ (x : Bool). if x then next_saves (limits_with u) start requests else 0) not_nine,
      );
    }
