-- The headline of a session that ended between two requests.
use Rattle.std.specs.Prelude.{◌≡◌, ◌≢◌, ℕ, ◌+◌, ◌<◌, ◌≤◌, ◌==◌, Bool, false, if◌then◌else◌, List, [], ◌++◌, length, flat_map, Result, IsTrue, refl}
use Rattle.std.proofs.Common.{arith, ap, sym, ◌∙◌, subst, inl, append-nil}
use Rattle.disk_face.specs.Counts.{Rose, counted, last}
use Rattle.disk_face.specs.States.{IsLawful, State}
use Rattle.disk_face.specs.Moments.{LeftOnly}
use Rattle.disk_face.specs.Streams.{SinkState, SourceState}
use Rattle.size_class.specs.declared.TheConstants.{CLASSES, SIZE_MAX}
use Rattle.slot_codec.specs.Choice as choice
use Rattle.slot_codec.specs.Spelling.{head_len}
use Rattle.slot_codec.specs.declared.codec.SuperBlock.{SuperBlock}
use Rattle.slot_codec.specs.declared.codec.Kind.TheVariants as kind
use Rattle.map_model.specs.Maps.{Map}
use Rattle.map_model.specs.Requests.{Request}
use Rattle.segment_layout.specs.Books.{Book}
use Rattle.table_rules.specs.Opening.{OpensBy}
use Rattle.table_rules.specs.Sequences.{HasSequenceUpTo}
use Rattle.store_model.specs.Connection.{IsOver, StoreValue, base_of, state_of}
use Rattle.store_model.specs.Stores.{IsStore}
use Rattle.store_model.specs.States as store
use Rattle.store_model.specs.States.{Limits, Served, Step, served}
use Rattle.store_model.specs.Opened.{IsFoundImage, LeavesRoom, RestsOnFound}
use Rattle.ask_text.specs.Inputs.{Asks, BeginsNone}
use Rattle.ask_text.specs.Replies.{reply_text}
use Rattle.ask_session.specs.Sittings.{Sitting, new_sitting, unread}
use Rattle.ask_session.specs.Runs.{HasRun, budget, calls_since, last_kept, last_state}
use Rattle.served_file.specs.Served.{EndsTight, IsNextStart, OpensTo, OpensToKept, Ran, Starts, has_failed, limits_with, most_left, state_after, turn_opened, found_with}
use Rattle.run_command.specs.Headline.{HowFar, IsLong, IsTold, NumbersLine, RunHolds, next_reply, next_saves, next_states, served_states}
use Rattle.command_face.specs.declared.status.TheConstants.{DISK_FAILED, DONE, FAULTY_REQUEST, SINK_FAILED, SOURCE_FAILED, TOO_MANY_REQUESTS}
use Rattle.command_face.specs.Outcomes.{PutsLast, line_at, status_at}
use Rattle.command_face.specs.declared.stop.StopReason.{StopReason}
use Rattle.command_face.specs.declared.outcome.Outcome.{Outcome}
use Rattle.run_command.proofs.RunLists.{Splits, begins_none, none_next, splits}
use Rattle.served_file.proofs.OpeningLaws.{Opened}
use Rattle.served_file.proofs.OverLaws.{tight_over, next_over}
use Rattle.disk_face.specs.Devices.{devices}
use Rattle.run_command.proofs.SoFarLaws.{SoFar, View, view, newest, starts, done_is, few_done, ran_of, number, crash_c, numbered_c, reach_c, since_c, long_c, told_c, calls_c, over_c}

module _ (h : SoFar) where
  open h use {t, m, b, requests, end, old, op, from, i1, out, o1, s1, c, n, ran, few}

  abbrev v : View h
  v = view h

  open v use {u, limits, start, states, last_one, split}

  -- ---- the session ended between two requests

  module _ (after : SinkState) (rest : SourceState) (status : ℕ) (not_nine : (status == SINK_FAILED) ≡ false)
      (not_failed : has_failed status ≡ false) (nine : status ≢ SINK_FAILED) (seven : status ≢ DISK_FAILED)
      (sound : IsStore CLASSES s1.store) (ending : Result (Unit {0}) StopReason)
      (status_is : status ≡ status_at ending)
      (numbered : NumbersLine s1.done ending)
      (line : IsTrue out.tells → PutsLast o1.given after.given (line_at ending)
      (Rose out.faults after.faults))
      (far : HowFar status s1.done split.others end from rest) where
    abbrev counts : Outcome
    counts = record { status = status; done = s1.done; kept_done = s1.kept_done; kept_turn = s1.kept_turn }

    same_states : served_states status limits start states split.others ≡ states
    same_states = ap (λ (x : Bool). if x then states ++ next_states limits last_one split.others else states)
        not_nine

    between_requests : RunHolds (found_with u t m b) requests end counts (devices old out) (devices c after)
        from rest
    between_requests = record {
      start = start;
      starts = starts h;
      continues = λ is. op.continues;
      ran = ran_of h s1.done split.others refl refl;
      far = far;
      replies = λ told. record {
        between = o1.given;
        partial = [];
        end = ending;
        put = ran.puts op.told told ∙ sym (append-nil (out.given ++ flat_map reply_text ran.replies));
        front = record {
          none = λ _. refl;
          front = (next_reply limits last_one split.others, refl);
          cut = λ _ _. refl;
          changing = λ _ _. refl;
        };
        same_status = status_is;
        numbered = numbered;
        line = line told;
      };
      between = λ _. subst (λ (xs : List store.State). EndsTight u.k (head_len u.names)
          (last_state start xs) c.file)
          (sym same_states) (subst (λ (y : store.State). EndsTight u.k (head_len u.names) y c.file) (newest h)
          (tight_over s1.store c.file u sound (over_c h) ran.block));
      within = λ calm room rests below. subst (λ (xs : List store.State). IsLong u.k (head_len u.names) t
          (turn_opened t b old) start xs old c) (sym same_states) (long_c h room rests below);
      opened = λ calm settled has. (told_c h) settled;
      crash = λ room rests below. record {
        crash = λ image since. inl (crash_c h room rests below image since);
        since = λ mounted image since. inl (since_c h rests below image since);
        safe = λ is. absurd (nine is);
      };
      numbered = numbered_c h;
      acknowledged = record { number = number h; turns = λ _. (calls_c h) };
      failed = λ is. absurd (seven is);
      next_start = λ calm.
          let q = last_one.sequence
          + (if status == SINK_FAILED then next_saves limits last_one split.others else 0) in
          subst (λ (xs : List store.State). IsNextStart t (last_state start xs) q old c) (sym same_states)
          (subst (λ (y : store.State). IsNextStart t y q old c) (newest h)
          (next_over t s1.store old c q sound (over_c h) (ran.block ∙ op.block)
          (omega (arith, ap (λ (y : store.State). y.sequence) (newest h)))
          (λ was. ran.rests op.told (op.rests was))));
      reach = omega (
        arith,
        (reach_c h),
        ap (λ (x : Bool). if x then next_saves limits last_one split.others else 0) not_nine,
      );
    }

  module _ (after : SinkState) (rest : SourceState) (sound : IsStore CLASSES s1.store)
      (ending : Result (Unit {0}) StopReason) (numbered : NumbersLine s1.done ending)
      (line : IsTrue out.tells → PutsLast o1.given after.given (line_at ending)
      (Rose out.faults after.faults)) where
    abbrev RunsWith : ℕ → Type 0
    RunsWith status = RunHolds (found_with u t m b) requests end (record {
      status = status;
      done = s1.done;
      kept_done = s1.kept_done;
      kept_turn = s1.kept_turn;
    }) (devices old out) (devices c after) from rest

    some_left : n < budget → s1.done ≡ budget → ⊥
    some_left fewer is = omega (arith, is, done_is h, fewer)

    pub input_ended : DONE ≡ status_at ending → n < budget → unread s1 i1 ≡ [] → RunsWith DONE
    input_ended status_is fewer empty =
        let none = none_next split.others (unread s1 i1) end split.asks
        (subst BeginsNone (sym empty) begins_none) in
        between_requests after rest DONE refl refl (λ is. omega (arith, is))
        (λ is. omega (arith, is)) sound ending
        status_is numbered line (record {
          known = refl;
          done = λ is. (none.0, sym none.1 ∙ empty);
          line = λ is. absurd (omega (arith, is));
          absent = λ is. absurd (omega (arith, is));
          disk = λ is. absurd (omega (arith, is));
          sink = λ is. absurd (omega (arith, is));
          memory = λ is. absurd (omega (arith, is));
          few = few_done h;
          limit = (λ is. absurd (omega (arith, is)), λ is. absurd (some_left fewer is));
        })

    pub line_failed : FAULTY_REQUEST ≡ status_at ending → n < budget → (unread s1 i1 ≡ [] → ⊥)
        → BeginsNone (unread s1 i1)
        → RunsWith FAULTY_REQUEST
    line_failed status_is fewer some begins =
        let none = none_next split.others (unread s1 i1) end split.asks begins in
        between_requests after rest FAULTY_REQUEST refl refl (λ is. omega (arith, is))
        (λ is. omega (arith, is)) sound ending
        status_is numbered line (record {
          known = refl;
          done = λ is. absurd (omega (arith, is));
          line = λ is. (none.0, λ empty. some (none.1 ∙ empty));
          absent = λ is. absurd (omega (arith, is));
          disk = λ is. absurd (omega (arith, is));
          sink = λ is. absurd (omega (arith, is));
          memory = λ is. absurd (omega (arith, is));
          few = few_done h;
          limit = (λ is. absurd (omega (arith, is)), λ is. absurd (some_left fewer is));
        })

    pub source_failed : SOURCE_FAILED ≡ status_at ending → n < budget → RunsWith SOURCE_FAILED
    source_failed status_is fewer =
        between_requests after rest SOURCE_FAILED refl refl (λ is. omega (arith, is))
        (λ is. omega (arith, is)) sound ending
        status_is numbered line (record {
          known = refl;
          done = λ is. absurd (omega (arith, is));
          line = λ is. absurd (omega (arith, is));
          absent = λ is. absurd (omega (arith, is));
          disk = λ is. absurd (omega (arith, is));
          sink = λ is. absurd (omega (arith, is));
          memory = λ is. absurd (omega (arith, is));
          few = few_done h;
          limit = (λ is. absurd (omega (arith, is)), λ is. absurd (some_left fewer is));
        })

    pub all_answered : TOO_MANY_REQUESTS ≡ status_at ending → n ≡ budget → RunsWith TOO_MANY_REQUESTS
    all_answered status_is all =
        between_requests after rest TOO_MANY_REQUESTS refl refl (λ is. omega (arith, is))
        (λ is. omega (arith, is)) sound ending
        status_is numbered line (record {
          known = refl;
          done = λ is. absurd (omega (arith, is));
          line = λ is. absurd (omega (arith, is));
          absent = λ is. absurd (omega (arith, is));
          disk = λ is. absurd (omega (arith, is));
          sink = λ is. absurd (omega (arith, is));
          memory = λ is. absurd (omega (arith, is));
          few = few_done h;
          limit = (λ is. (done_is h) ∙ all, λ is. refl);
        })
