-- The headline of a session in which a device failed while a request was served or its reply was put.
use Rattle.std.specs.Prelude.{◌≡◌, ◌⊎◌, ℕ, ◌+◌, ◌-◌, ◌<◌, ◌≤◌, true, false, List, [], ◌∷◌, ◌++◌, length, Result, Err, IsTrue, refl}
use Rattle.std.proofs.lemmas.Bool.{cases_Bool}
use Rattle.std.proofs.Common.{arith, ap, sym, ◌∙◌, subst, inl, inr, append-nil}
use Rattle.std.proofs.lemmas.List.{append_cancel_left}
use Rattle.disk_face.specs.Counts.{IsCalm, Rose, counted, last}
use Rattle.disk_face.specs.States.{IsLawful, State}
use Rattle.disk_face.specs.Moments.{Leaves, LeftOnly}
use Rattle.disk_face.specs.Streams.{SinkState, SourceState}
use Rattle.disk_face.proofs.MomentLaws.{Leaves-weaken, LeftOnly-after}
use Rattle.size_class.specs.declared.TheConstants.{CLASSES, SIZE_MAX}
use Rattle.slot_codec.specs.Choice as choice
use Rattle.slot_codec.specs.Spelling.{head_len}
use Rattle.slot_codec.specs.declared.codec.SuperBlock.{SuperBlock}
use Rattle.map_model.specs.Maps.{Map}
use Rattle.map_model.specs.Requests.{Request}
use Rattle.segment_layout.specs.Books.{Book}
use Rattle.segment_layout.specs.Bounds.{Loose}
use Rattle.table_rules.specs.Opening.{Opens, OpensBy}
use Rattle.table_rules.specs.Sequences.{HasSequenceUpTo}
use Rattle.table_rules.proofs.SequenceLaws.{sequence_wider}
use Rattle.store_model.specs.Connection.{StoreValue, base_of, limits_of, state_of}
use Rattle.store_model.specs.States as store
use Rattle.store_model.specs.States.{Limits, Served, Step, served}
use Rattle.store_model.specs.Opened.{IsFoundImage, LeavesRoom, RestsOnFound}
use Rattle.ask_text.specs.Inputs.{Asks}
use Rattle.ask_text.specs.Replies.{reply_text}
use Rattle.ask_session.specs.Serving.{IsFront, IsServingImage, is_changing, is_disk, reply_at, served_at}
use Rattle.ask_session.specs.Outside.{outside}
use Rattle.ask_session.specs.Sittings.{Sitting, new_sitting, unread}
use Rattle.ask_session.specs.Turns.{IsStopped}
use Rattle.ask_session.specs.Runs as run
use Rattle.ask_session.specs.Runs.{HasRun, IsRunImage, IsStepImage, budget, calls_since, last_kept, last_state, most_sequence}
use Rattle.ask_text.specs.declared.ends.End.{End}
use Rattle.ask_text.specs.declared.ends.End.TheVariants as ends
use Rattle.ask_session.proofs.GrowingLaws.{saves_within}
use Rattle.served_file.specs.Served.{OpensTo, OpensToBeing, OpensToKept, OpensToNext, Ran, Starts, has_failed, limits_with, most_left, state_after, found_with}
use Rattle.run_command.specs.Headline.{HasReplied, IsPartial, NumbersLine, RunHolds, next_is_changing}
use Rattle.command_face.specs.declared.status.TheConstants.{DISK_FAILED}
use Rattle.command_face.specs.Outcomes.{PutsLast, line_at, status_at}
use Rattle.command_face.specs.declared.stop.StopReason.{StopReason}
use Rattle.command_face.specs.declared.outcome.Outcome.{Outcome}
use Rattle.run_command.proofs.RunLists.{IsNext, Splits, next_is, splits}
use Rattle.served_file.proofs.OpeningLaws.{Opened, requests_low}
use Rattle.disk_face.specs.Devices.{devices}
use Rattle.run_command.proofs.SoFarLaws.{SoFar, View, view, newest, starts, done_is, few_done, ran_of, number, last_shows, last_kept_shows, turn_c, crash_c, numbered_c, reach_c, since_c, calls_c, told_now}

module _ (h : SoFar) where
  open h use {t, m, b, requests, end, old, a, s, op, from, i1, out, o1, s1, c, n, told_source, ran, few}

  abbrev v : View h
  v = view h

  open v use {u, limits, start, states, last_one, split}

  -- ---- a device failed while a request was served or its reply was put

  module _ {new : Sitting} {z : State} {o2 : SinkState} {rest : SourceState} (bad : End)
      (x : IsStopped CLASSES s1 new (outside c i1 o1) (outside z rest o2) bad) where
    abbrev pub r : Request
    r = x.served.request

    abbrev pub next : IsNext split.others r
    next = next_is r split.others (unread s1 i1) (unread new rest) end x.served.text split.asks
        (x.served.whole (ran.source_told ∙ told_source))

    abbrev pub others : List Request
    others = r ∷ next.more

    abbrev pub next_one : Served
    next_one = served limits last_one r

    pub served_is : served_at s1.store c.file r ≡ next_one
    served_is = λ i. served (limits_with (ran.block i)) (newest h i) r

    pub turn_z : c.turn ≤ z.turn
    turn_z = x.served.replies.serves.frame.no_turn_back

    pub left_z : RestsOnFound t old → Leaves c z (IsServingImage CLASSES s1.store r c.file)
    left_z rests = x.served.replies.serves.left (told_now h) (ran.rests op.told (op.rests rests))

    -- what is left in the last step opens to the last checkpoint, or to the one that the request makes
    opens_z : (image : List ℕ) → IsServingImage CLASSES s1.store r c.file image
        → run.OpensToKept CLASSES last_one image ⊎ OpensToNext limits last_one others image
    opens_z image is = elim is.opens
        as (λ _. run.OpensToKept CLASSES last_one image ⊎ OpensToNext limits last_one others image) [
          | inl kept ↦ inl (subst (λ (y : store.State). run.OpensToKept CLASSES y image) (newest h) kept)
          | inr one ↦ inr (
            subst (λ (y : Served). 0 < y.saves.least) served_is one.0,
            subst (λ (y : Served). Opens CLASSES SIZE_MAX image y.state.map y.state.book) served_is one.1,
          )
        ]

    pub loose_z : (image : List ℕ) → IsServingImage CLASSES s1.store r c.file image
        → Loose u.k (length image - base_of s) last_one.map next_one.state.map
    loose_z image is = subst (λ (y : Served). Loose u.k
        (length image - base_of s) last_one.map y.state.map) served_is
        (subst (λ (y : store.State). Loose u.k (length image - base_of s) y.map
        (served_at s1.store c.file r).state.map) (newest h)
        (subst (λ (v : SuperBlock). Loose v.k (length image - head_len v.names) (state_of s1.store c.file).map
        (served_at s1.store c.file r).state.map) ran.block is.loose))

    pub low_z : last_one.sequence + next_one.saves.most ≤ most_left u.k t
    low_z = omega (
      arith,
      saves_within (limits_of s1.store) (state_of s1.store c.file) r u.k s.in_use.sequence
          (ap (λ (v : SuperBlock). v.k) ran.block) (ran.reach op.told),
      requests_low t u.k s.in_use.sequence op.most,
      ap (λ (y : store.State). y.sequence) (newest h),
      ap (λ (y : Served). y.saves.most) served_is,
    )

    pub numbered_z : LeavesRoom t → RestsOnFound t old → z.turn < last
        → LeftOnly z old.turn (HasSequenceUpTo (most_left u.k t))
    numbered_z room rests below =
        let P = HasSequenceUpTo (most_left u.k t) in
        let q = s1.store.in_use.sequence + (served_at s1.store c.file r).saves.most in
        let low : q ≤ most_left u.k t = omega (
          arith,
          saves_within (limits_of s1.store) (state_of s1.store c.file) r u.k s.in_use.sequence
              (ap (λ (v : SuperBlock). v.k) ran.block) (ran.reach op.told),
          requests_low t u.k s.in_use.sequence op.most,
        ) in
        LeftOnly-after old.turn P (omega (arith, op.later, turn_c h))
        (numbered_c h room rests (omega (arith, below, turn_z)))
        (Leaves-weaken P (λ image is. sequence_wider q (most_left u.k t) image low is.sequence)
        (left_z rests))

    module _ (status : ℕ) (failed : IsTrue (has_failed status)) where
      pub crash_z : LeavesRoom t → RestsOnFound t old → z.turn < last → LeftOnly z old.turn
          (λ image. OpensToKept start ran.replies states image
          ⊎ OpensToBeing status limits last_one others image)
      crash_z room rests below =
          let P = λ (image : List ℕ). OpensToKept start ran.replies states image
          ⊎ OpensToBeing status limits last_one others image in
          LeftOnly-after old.turn P (omega (arith, op.later, turn_c h))
          (λ image since. inl (crash_c h room rests (omega (arith, below, turn_z)) image since))
          (Leaves-weaken P (λ image is. elim (opens_z image is) as (λ _. P image) [
            | inl kept ↦ inl (last_kept_shows h image kept)
            | inr one ↦ inr (failed, one)
          ]) (left_z rests))

      pub since_z : RestsOnFound t old → z.turn < last → LeftOnly z new.kept_turn
          (λ image. OpensTo (state_after start states new.kept_done) image
          ⊎ OpensToBeing status limits last_one others image)
      since_z rests below =
          let P = λ (image : List ℕ). OpensTo (state_after start states s1.kept_done) image
          ⊎ OpensToBeing status limits last_one others image in
          subst (λ (k : ℕ). LeftOnly z new.kept_turn (λ image. OpensTo (state_after start states k) image
          ⊎ OpensToBeing status limits last_one others image)) (sym x.counts.kept_done)
          (subst (λ (k : ℕ). LeftOnly z k P) (sym x.counts.kept_turn)
          (LeftOnly-after s1.kept_turn P (ran.kept_turn (omega arith))
          (λ image since. inl (since_c h rests (omega (arith, below, turn_z)) image since))
          (Leaves-weaken P (λ image is. elim (opens_z image is) as (λ _. P image) [
            | inl kept ↦ inl (last_shows h image kept)
            | inr one ↦ inr (failed, one)
          ]) (left_z rests))))

    -- the replies, and a front of the next
    module _ (after : SinkState) (status : ℕ) (failed : has_failed status ≡ true)
        (seven : status ≡ DISK_FAILED → is_disk bad ≡ true)
        (ending : Result (Unit {0}) StopReason) (status_is : status ≡ status_at ending)
        (numbered : NumbersLine new.done ending) (told : IsTrue out.tells)
        (line : PutsLast o2.given after.given (line_at ending) (Rose out.faults after.faults)) where
      told_1 : IsTrue o1.tells
      told_1 = ran.sink_told ∙ told

      front : IsFront (reply_text (reply_at s1.store c.file r)) o1.given o2.given (is_disk bad)
      front = (x.served.replies.puts (told_now h) told_1).front

      text_is : reply_text next_one.reply ≡ front.put ++ front.rest
      text_is = ap (λ (y : Served). reply_text y.reply) (sym served_is) ∙ front.whole

      none_of : (xs : List ℕ) → xs ++ front.put ≡ xs → front.put ≡ []
      none_of xs is = append_cancel_left xs front.put [] (is ∙ sym (append-nil xs))

      partial_z : IsPartial status limits last_one others front.put
      partial_z = record {
        none = λ is. let e : true ≡ false = sym failed ∙ is in absurd (cc);
        front = (front.rest, text_is);
        cut = λ is same. front.some (seven is)
            (append_cancel_left front.put front.rest [] (sym text_is ∙ same ∙ sym (append-nil front.put)));
        changing = λ is changes. none_of o1.given
            (sym front.given ∙ x.served.replies.nothing told_1 changes (seven is));
      }

      pub replied_z : HasReplied limits last_one ran.replies others status new.done out after
      replied_z = record {
        between = o2.given;
        partial = front.put;
        end = ending;
        put = front.given ∙ ap (λ (xs : List ℕ). xs ++ front.put) (ran.puts op.told told);
        front = partial_z;
        same_status = status_is;
        numbered = numbered;
        line = line;
      }

    module _ (after : SinkState) (ending : Result (Unit {0}) StopReason)
        (numbered : NumbersLine new.done ending)
        (fewer : n < budget)
        (line : IsTrue out.tells → PutsLast o2.given after.given (line_at ending)
        (Rose out.faults after.faults))
      where
        abbrev counts_of : ℕ → Outcome
        counts_of status =
            record { status = status; done = new.done; kept_done = new.kept_done; kept_turn = new.kept_turn }

        abbrev pub RunsTo : ℕ → Type 0
        RunsTo status = RunHolds (found_with u t m b) requests end (counts_of status) (devices old out)
            (devices z after) from rest

        pub few_z : new.done ≤ budget
        few_z = omega (arith, x.counts.done, few_done h)

        pub not_all : new.done ≡ budget → ⊥
        not_all is = omega (arith, is, x.counts.done, done_is h, fewer)

        pub next_some : others ≡ [] → ⊥
        next_some is = absurd (cc)

        -- where the request only reads, the calls are those before it
        still_z : (next_is_changing others ≡ true)
            ⊎ (z.turn ≡ counted new.kept_turn (calls_since limits 0 start states ran.requests ran.replies))
        still_z = elim (cases_Bool (is_changing r)) as (λ _. (next_is_changing others ≡ true)
            ⊎ (z.turn ≡ counted new.kept_turn (calls_since limits 0 start states ran.requests ran.replies))) [
              | inl changes ↦ inl changes
              | inr reads ↦ inr (omega (
                arith,
                (x.served.replies.serves.still reads).same_turn,
                (calls_c h),
                x.counts.kept_turn,
              ))
            ]

        pub number_z : new.kept_done ≡ last_kept 0 0 ran.replies
        number_z = x.counts.kept_done ∙ (number h)

        module _ (disk : bad ≡ ends.Disk) (status_is : DISK_FAILED ≡ status_at ending) where
          never : {A : Type 0} → IsCalm old.faults z.faults → A
          never calm = absurd (omega (
            arith,
            calm.same,
            calm.below,
            op.faults,
            ran.disk_later,
            x.served.replies.disk_cause.rose (ap (λ (y : End). Err y) disk),
          ))

          pub disk_failed : RunsTo DISK_FAILED
          disk_failed = record {
            start = start;
            starts = starts h;
            continues = λ is. absurd (elim is as (λ _. ⊥) [
              | inl whole ↦ (let e : false ≡ true = whole in absurd (cc))
              | inr nine ↦ omega (arith, nine)
            ]);
            ran = ran_of h new.done others next.is x.counts.done;
            far = record {
              known = refl;
              done = λ is. absurd (omega (arith, is));
              line = λ is. absurd (omega (arith, is));
              absent = λ is. absurd (omega (arith, is));
              disk = λ is. inl next_some;
              sink = λ is. absurd (omega (arith, is));
              memory = λ is. absurd (omega (arith, is));
              few = few_z;
              limit = (λ is. absurd (omega (arith, is)), λ is. absurd (not_all is));
            };
            replies = λ told. replied_z after DISK_FAILED refl (λ is. ap is_disk disk) ending status_is
                numbered told (line told);
            between = λ is. absurd (elim is as (λ _. ⊥) [
              | inl whole ↦ (let e : false ≡ true = whole in absurd (cc))
              | inr nine ↦ omega (arith, nine)
            ]);
            within = λ calm room rests below. never calm;
            opened = λ calm settled has. never calm;
            crash = λ room rests below. record {
              crash = crash_z DISK_FAILED refl room rests below;
              since = λ mounted. since_z DISK_FAILED refl rests below;
              safe = λ is. absurd (omega (arith, is));
            };
            numbered = numbered_z;
            acknowledged = record {
              number = number_z;
              turns = λ is. let e : false ≡ true = is in absurd (cc);
            };
            failed = λ seven mounted. still_z;
            next_start = λ calm. never calm;
            reach = omega (arith, reach_c h);
          }
