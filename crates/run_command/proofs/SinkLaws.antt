-- The headline of a session whose sink failed at the reply of a request.
use Rattle.std.specs.Prelude.{◌≡◌, ◌⊎◌, ℕ, ◌+◌, ◌-◌, ◌<◌, ◌≤◌, Bool, true, false, ◌&&◌, List, [], ◌∷◌, ◌++◌, length, Result, IsTrue, refl}
use Rattle.std.proofs.Common.{arith, ap, sym, ◌∙◌, subst, inl, inr}
use Rattle.disk_face.specs.Counts.{Rose, last}
use Rattle.disk_face.specs.States.{IsLawful, State}
use Rattle.disk_face.specs.Moments.{Leaves, LeftOnly}
use Rattle.disk_face.specs.Streams.{SinkState, SourceState}
use Rattle.disk_face.proofs.MomentLaws.{Leaves-weaken, LeftOnly-after}
use Rattle.size_class.specs.declared.TheConstants.{CLASSES, SIZE_MAX}
use Rattle.slot_codec.specs.Choice as choice
use Rattle.slot_codec.specs.Spelling.{head_len}
use Rattle.slot_codec.specs.declared.codec.SuperBlock.{SuperBlock}
use Rattle.slot_codec.specs.declared.codec.Kind.TheVariants as kind
use Rattle.map_model.specs.Maps.{Map}
use Rattle.map_model.specs.Requests.{Request}
use Rattle.segment_layout.specs.Books.{Book}
use Rattle.segment_layout.specs.Bounds.{Loose}
use Rattle.table_rules.specs.Opening.{OpensBy}
use Rattle.table_rules.specs.Sequences.{HasSequenceUpTo}
use Rattle.store_model.specs.Connection.{IsOver, StoreValue, RestsOnTable, base_of, limits_of, state_of}
use Rattle.store_model.specs.Stores.{IsStore}
use Rattle.store_model.specs.States as store
use Rattle.store_model.specs.States.{Limits, Served, Step, served}
use Rattle.store_model.specs.Opened.{IsFoundImage, LeavesRoom, RestsOnFound}
use Rattle.store_model.proofs.OverLaws.{kept_image}
use Rattle.ask_text.specs.Inputs.{Asks}
use Rattle.ask_session.specs.Serving.{IsServingImage, is_changing, is_disk, reply_at, served_at}
use Rattle.ask_session.specs.Outside.{outside}
use Rattle.ask_session.specs.Sittings.{Sitting, new_sitting, unread}
use Rattle.ask_session.specs.Turns.{IsStopped}
use Rattle.ask_session.specs.Runs.{HasRun, budget, last_kept, last_state}
use Rattle.ask_text.specs.declared.ends.End.{End}
use Rattle.ask_session.proofs.GrowingLaws.{and_none, last_more, some_last, some_more}
use Rattle.ask_session.proofs.MakesLaws.{makes}
use Rattle.ask_session.proofs.RunLaws.{opens_with}
use Rattle.served_file.specs.Served.{EndsTight, IsNextStart, OpensTo, Ran, Starts, limits_with, most_left, turn_opened, found_with}
use Rattle.run_command.specs.Headline.{IsLong, IsTold, IsWithinBounds, NumbersLine, RunHolds}
use Rattle.command_face.specs.declared.status.TheConstants.{SINK_FAILED}
use Rattle.command_face.specs.Outcomes.{PutsLast, line_at, status_at}
use Rattle.command_face.specs.declared.stop.StopReason.{StopReason}
use Rattle.command_face.specs.declared.outcome.Outcome.{Outcome}
use Rattle.run_command.proofs.RunLists.{IsNext, Splits, next_is, splits}
use Rattle.served_file.proofs.OpeningLaws.{Opened}
use Rattle.served_file.proofs.OverLaws.{tight_over, next_over}
use Rattle.disk_face.specs.Devices.{devices}
use Rattle.run_command.proofs.SoFarLaws.{SoFar, View, view, newest, starts, ran_of, number, turn_c, numbered_c, long_c, told_c, told_now}
use Rattle.run_command.proofs.FailedLaws as while_served
use Rattle.store_model.proofs.RequestLaws.{served_sequence}

module _ (h : SoFar) where
  open h use {t, m, b, requests, end, old, s, op, from, i1, out, o1, s1, c, n, told_source, ran, few}

  abbrev v : View h
  v = view h

  open v use {u, limits, start, states, last_one, split}

  module _ {new : Sitting} {z : State} {o2 : SinkState} {rest : SourceState} (bad : End)
      (x : IsStopped CLASSES s1 new (outside c i1 o1) (outside z rest o2) bad) where
    abbrev r : Request
    r = x.served.request

    abbrev next : IsNext split.others r
    next = next_is r split.others (unread s1 i1) (unread new rest) end x.served.text split.asks
        (x.served.whole (ran.source_told ∙ told_source))

    abbrev others : List Request
    others = r ∷ next.more

    abbrev next_one : Served
    next_one = served limits last_one r

    served_is : served_at s1.store c.file r ≡ next_one
    served_is = while_served.served_is h bad x

    turn_z : c.turn ≤ z.turn
    turn_z = while_served.turn_z h bad x

    left_z : RestsOnFound t old → Leaves c z (IsServingImage CLASSES s1.store r c.file)
    left_z = while_served.left_z h bad x

    loose_z : (image : List ℕ) → IsServingImage CLASSES s1.store r c.file image
        → Loose u.k (length image - base_of s) last_one.map next_one.state.map
    loose_z = while_served.loose_z h bad x

    low_z : last_one.sequence + next_one.saves.most ≤ most_left u.k t
    low_z = while_served.low_z h bad x

    numbered_z : LeavesRoom t → RestsOnFound t old → z.turn < last
        → LeftOnly z old.turn (HasSequenceUpTo (most_left u.k t))
    numbered_z = while_served.numbered_z h bad x

    module _ (after : SinkState) (ending : Result (Unit {0}) StopReason)
        (numbered : NumbersLine new.done ending)
        (fewer : n < budget)
        (line : IsTrue out.tells → PutsLast o2.given after.given (line_at ending)
        (Rose out.faults after.faults))
      where
        abbrev counts_of : ℕ → Outcome
        counts_of status =
            record { status = status; done = new.done; kept_done = new.kept_done; kept_turn = new.kept_turn }

        abbrev RunsTo : ℕ → Type 0
        RunsTo status = RunHolds (found_with u t m b) requests end (counts_of status) (devices old out)
            (devices z after) from rest

        few_z : new.done ≤ budget
        few_z = while_served.few_z h bad x
            after ending numbered fewer line

        not_all : new.done ≡ budget → ⊥
        not_all = while_served.not_all h bad x
            after ending numbered fewer line

        next_some : others ≡ [] → ⊥
        next_some = while_served.next_some h bad x
            after ending numbered fewer line

        number_z : new.kept_done ≡ last_kept 0 0 ran.replies
        number_z = while_served.number_z h bad x
            after ending numbered fewer line

        module _ (quiet : is_disk bad ≡ false) (status_is : SINK_FAILED ≡ status_at ending)
            (sound : new.store.is_broken ≡ false → IsStore CLASSES new.store) where
          abbrev t2 : store.State
          t2 = state_of new.store z.file

          step : Step (limits_of s1.store) (state_of s1.store c.file) r (reply_at s1.store c.file r) t2
          step = x.served.replies.serves.step (told_now h) quiet

          t2_is : t2 ≡ record next_one.state { sequence = t2.sequence }
          t2_is = step.state ∙ ap (λ (y : Served). record y.state { sequence = t2.sequence }) served_is

          unbroken_z : new.store.is_broken ≡ false
          unbroken_z = x.served.replies.serves.broken ∙ ap (λ (q : Bool). is_changing r && q) quiet
              ∙ and_none (is_changing r)

          over_z : IsOver CLASSES new.store z.file
          over_z = x.served.replies.serves.over.over unbroken_z
              (x.served.replies.serves.frame.stays.told ∙ (told_now h))

          block_z : new.store.in_use.block ≡ u
          block_z = x.served.replies.serves.block quiet ∙ ran.block

          rests_z : RestsOnFound t old → RestsOnTable (base_of new.store) new.store.kept z
          rests_z rests = x.served.replies.serves.rests (told_now h) unbroken_z
              (ran.rests op.told (op.rests rests))

          tight_z : EndsTight u.k (head_len u.names) next_one.state z.file
          tight_z =
              let e = subst (λ (y : store.State). EndsTight u.k (head_len u.names) y z.file) t2_is
              (tight_over new.store z.file u (sound unbroken_z) over_z block_z) in
              record { same_length = e.same_length; now = e.now; kept = e.kept }

          last_served : last_state start (states ++ next_one.state ∷ []) ≡ next_one.state
          last_served = last_more start next_one.state states

          -- what may be left then opens to the checkpoint that the request made
          safe_z : RestsOnFound t old → 0 < next_one.saves.least → (image : List ℕ) → z.may_leave image
              → OpensTo next_one.state image
          safe_z rests least image left = elim (makes limits last_one r) as
              (λ _. OpensTo next_one.state image) [
                | inl one ↦ opens_with image (sym one.kept ∙ ap (λ (y : store.State). y.kept) (sym t2_is))
                    (sym one.book ∙ ap (λ (y : store.State). y.kept_book) (sym t2_is))
                    (kept_image new.store (sound unbroken_z) z.file over_z image
                    (rests_z rests image left)).opens
                | inr none ↦ absurd (omega (arith, least, none.least))
              ]

          -- one more step
          longer : (image : List ℕ) → IsWithinBounds u.k (base_of s) start states image
              → IsWithinBounds u.k (base_of s) start (states ++ next_one.state ∷ []) image
          longer image is = elim is
              as (λ _. IsWithinBounds u.k (base_of s) start (states ++ next_one.state ∷ []) image) [
                | inl same ↦ inl same
                | inr some ↦ inr (some_more (λ x y. Loose u.k (length image - base_of s) x.map y.map) start
                    next_one.state states some)
              ]

          loose_next : (image : List ℕ) → IsServingImage CLASSES s1.store r c.file image
              → IsWithinBounds u.k (base_of s) start (states ++ next_one.state ∷ []) image
          loose_next image is = inr (some_last (λ x y. Loose u.k (length image - base_of s) x.map y.map) start
              next_one.state states (loose_z image is))

          long_z : LeavesRoom t → RestsOnFound t old → z.turn < last
              → IsLong u.k (base_of s) t (turn_opened t b old) start
              (states ++ next_one.state ∷ []) old z
          long_z room rests below =
              let was = long_c h room rests (omega (arith, below, turn_z)) in
              let within = λ (image : List ℕ). IsWithinBounds u.k (base_of s) start
              (states ++ next_one.state ∷ []) image in
              record {
                settled = λ settled later.
                    let low : turn_opened t b old ≤ c.turn = omega (arith, op.turn settled, turn_c h) in
                    LeftOnly-after (turn_opened t b old) within low
                    (λ image since. longer image (was.settled settled low image since))
                    (Leaves-weaken within loose_next (left_z rests));
                moving = λ moving.
                    let P = λ (image : List ℕ). (length image ≤ length old.file) ⊎ within image in
                    LeftOnly-after old.turn P (omega (arith, op.later, turn_c h))
                    (λ image since. elim (was.moving moving image since) as (λ _. P image) [
                      | inl short ↦ inl short
                      | inr is ↦ inr (longer image is)
                    ]) (Leaves-weaken P (λ image is. inr (loose_next image is)) (left_z rests));
              }

          next_z : IsNextStart t next_one.state (last_one.sequence + next_one.saves.most) old z
          next_z =
              let low : new.store.in_use.sequence ≤ last_one.sequence + next_one.saves.most = omega (
                arith,
                step.high,
                ap (λ (y : store.State). y.sequence) (newest h),
                ap (λ (y : Served). y.saves.most) served_is,
              ) in
              let e = subst (λ (y : store.State). IsNextStart t y
              (last_one.sequence + next_one.saves.most) old z) t2_is
              (next_over t new.store old z (last_one.sequence + next_one.saves.most) (sound unbroken_z) over_z
              (block_z ∙ op.block) low rests_z) in
              record {
                table = e.table;
                opens = e.opens;
                block = e.block;
                not_worn = e.not_worn;
                exact = λ same. e.exact (omega (
                  arith,
                  same,
                  served_sequence limits last_one r,
                  step.low,
                  step.high,
                  ap (λ (y : store.State). y.sequence) (newest h),
                  ap (λ (y : Served). y.saves.most) served_is,
                ));
                rests = e.rests;
              }

          pub sink_failed : RunsTo SINK_FAILED
          sink_failed = record {
            start = start;
            starts = starts h;
            continues = λ is. op.continues;
            ran = ran_of h new.done others next.is x.counts.done;
            far = record {
              known = refl;
              done = λ is. absurd (omega (arith, is));
              line = λ is. absurd (omega (arith, is));
              absent = λ is. absurd (omega (arith, is));
              disk = λ is. absurd (omega (arith, is));
              sink = λ is. next_some;
              memory = λ is. absurd (omega (arith, is));
              few = few_z;
              limit = (λ is. absurd (omega (arith, is)), λ is. absurd (not_all is));
            };
            replies = λ told. while_served.replied_z h
                bad x after SINK_FAILED refl
                (λ is. absurd (omega (arith, is))) ending status_is numbered told
                (line told);
            between = λ is. subst (λ (y : store.State). EndsTight u.k (head_len u.names) y z.file)
                (sym last_served)
                tight_z;
            within = λ calm room rests below. long_z room rests below;
            opened = λ calm settled has. record {
              low = omega (arith, x.counts.kept_turn, (told_c h settled).low);
              first = λ none. x.counts.kept_turn ∙ (told_c h settled).first (sym x.counts.kept_done ∙ none);
            };
            crash = λ room rests below. record {
              crash = while_served.crash_z h
                  bad x SINK_FAILED refl room rests below;
              since = λ mounted. while_served.since_z h
                  bad x SINK_FAILED refl rests below;
              safe = λ is. safe_z rests;
            };
            numbered = numbered_z;
            acknowledged = record {
              number = number_z;
              turns = λ is. let e : false ≡ true = is in absurd (cc);
            };
            failed = λ is. absurd (omega (arith, is));
            next_start = λ calm. subst (λ (y : store.State). IsNextStart t y
                (last_one.sequence + next_one.saves.most) old z) (sym last_served) next_z;
            reach = low_z;
          }
