-- How a desk of an open store went, from its run and its end.
use Rattle.std.specs.Prelude.{◌≡◌, ◌≢◌, ◌⊎◌, ◌↔◌, ◌<◌, ◌≤◌, ℕ, true, false, List, [], ◌∷◌, ◌++◌, None, Result, Err, IsTrue, refl}
use Rattle.std.proofs.Common.{arith, ap, sym, ◌∙◌, subst, inl, inr}
use Rattle.std.proofs.lemmas.Bool.{cases_Bool}
use Rattle.disk_face.specs.Devices.{devices}
use Rattle.disk_face.specs.States as disk
use Rattle.disk_face.proofs.MomentLaws.{Leaves-trans, Leaves-weaken}
use Rattle.size_class.specs.declared.TheConstants.{CLASSES, SIZE_MAX}
use Rattle.slot_codec.specs.declared.codec.SuperBlock.{SuperBlock}
use Rattle.store_model.specs.Connection.{RestsOnTable, StoreValue, base_of, limits_of, state_of}
use Rattle.store_model.specs.States as store
use Rattle.store_model.specs.States.{Limits}
use Rattle.store_model.specs.Stores.{IsStore}
use Rattle.command_face.specs.declared.stop.StopReason.{StopReason}
use Rattle.ask_text.specs.Ends.{is_budget}
use Rattle.ask_text.specs.declared.ends.End.{End}
use Rattle.ask_text.specs.declared.ends.End.TheVariants as ends
use Rattle.ask_text.specs.declared.ends.Turn.TheVariants as turn
use Rattle.ask_session.specs.Outside.{Held, Seen, outside_of}
use Rattle.ask_session.specs.Serving.{is_disk_fault}
use Rattle.desk_model.specs.Answers.{Answer}
use Rattle.desk_model.specs.Desks.{Desk, Plays, last_desk, new_desk}
use Rattle.desk_model.specs.Events.{Event}
use Rattle.desk_core.specs.Benches.{Bench, unread}
use Rattle.desk_core.specs.Images.{Checkpoint, IsDeskImage, OpensTo, RestsFrom, SomeDesk, kept_of, settled_before, settled_of}
use Rattle.desk_core.specs.Ready.{IsNewBench}
use Rattle.desk_core.specs.Runs.{EndsDesk, EndsIn, budget}
use Rattle.desk_core.specs.Shows.{Shows}
use Rattle.desk_core.specs.Turns.{KeepsBench, is_unread}
use Rattle.desk_core.proofs.HandLaws.{no_hand}
use Rattle.desk_core.proofs.MadeLaws.{images_made}
use Rattle.desk_core.proofs.RunImageLaws.{image_last, images_more, settled_in}
use Rattle.desk_model.proofs.PlayLaws.{plays_more}
use Rattle.desk_command.specs.Acts.{IsAct, IsImageFrom, LastAct, NextStep, desk_left, last_from, settled_before_last}
use Rattle.desk_command.specs.Acts as act
use Rattle.desk_command.specs.Desking.{KeepsSource}
use Rattle.desk_command.specs.Doing.{DeskWent, HasDesked, IsDesking}
use Rattle.desk_command.proofs.DoneLaws.{status_for}
use Rattle.desk_command.proofs.KeepLaws.{causes_ran, frame_ran, last_keeps, source_ran}
use Rattle.desk_command.proofs.LastLaws.{LastEvent, calm_at, finishes_kept, last_event}
use Rattle.served_file.specs.Ends.{end_of}

-- ---- images

-- what opens to the checkpoint of the last desk is an image of the run
kept_in : (C : ℕ) (d : Desk) (ds : List Desk) (image : List ℕ)
    → OpensTo C (kept_of (last_desk d ds).state) image
    → OpensTo C (kept_of d.state) image ⊎ SomeDesk (λ t. OpensTo C (kept_of t.state) image) ds
kept_in C d [] image is = inl is
kept_in C d (t ∷ ds) image is = elim (kept_in C t ds image is)
    as (λ _. OpensTo C (kept_of d.state) image ⊎ SomeDesk (λ u. OpensTo C (kept_of u.state) image) (t ∷ ds)) [
      | inl one ↦ inr (inl one)
      | inr some ↦ inr (inr some)
    ]

module _ (limits : Limits) (start : store.State) (es : List Event) (answers : List Answer) (ds : List Desk)
    (plays : Plays limits (new_desk start) es answers ds) where
  abbrev l : Desk
  l = last_from start ds

  -- what was left before the last event
  run_image : (was : LastAct) (next : List Event) → IsAct limits l next was → (image : List ℕ)
      → IsDeskImage CLASSES (kept_of start) (new_desk start) ds image
      → IsImageFrom start answers ds was image
  run_image act.nothing next at image is =
      images_made CLASSES (kept_of start) limits (new_desk start) es answers ds image plays is
  run_image (act.finishing t) next at image is =
      images_made CLASSES (kept_of start) limits (new_desk start) es answers ds image plays is
  run_image (act.answering a t) [] at image is = absurd at
  run_image (act.answering a t) (e ∷ others) at image is =
      images_made CLASSES (kept_of start) limits (new_desk start) (es ++ e ∷ []) (answers ++ a ∷ [])
      (ds ++ t ∷ []) image (plays_more limits (new_desk start) es answers ds e a t plays at)
      (images_more CLASSES (kept_of start) (new_desk start) ds t image is)

  -- an image of the checkpoint that was settled, or of the desk's own
  both_in : (image : List ℕ) → OpensTo CLASSES (settled_before_last start ds) image
      ⊎ OpensTo CLASSES (kept_of l.state) image
      → IsDeskImage CLASSES (kept_of start) (new_desk start) ds image
  both_in image (inl is) = settled_in CLASSES (kept_of start) (new_desk start) ds image is
  both_in image (inr is) = elim (kept_in CLASSES (new_desk start) ds image is)
      as (λ _. IsDeskImage CLASSES (kept_of start) (new_desk start) ds image)
      [ inl one ↦ inl one | inr some ↦ inr some ]

  -- what was left in the last event
  last_image : (was : LastAct) (next : List Event) → IsAct limits l next was → (image : List ℕ)
      → OpensTo CLASSES (settled_before_last start ds) image
      ⊎ OpensTo CLASSES (kept_of (desk_left l was).state) image
      → IsImageFrom start answers ds was image
  last_image act.nothing next at image is = run_image act.nothing next at image (both_in image is)
  last_image (act.answering a t) [] at image is = absurd at
  last_image (act.answering a t) (e ∷ others) at image is =
      images_made CLASSES (kept_of start) limits (new_desk start) (es ++ e ∷ []) (answers ++ a ∷ [])
      (ds ++ t ∷ []) image (plays_more limits (new_desk start) es answers ds e a t plays at)
      (image_last CLASSES (kept_of start) (new_desk start) ds t image is)
  last_image (act.finishing t) next at image (inl is) =
      run_image (act.finishing t) next at image (both_in image (inl is))
  last_image (act.finishing t) next at image (inr is) =
      run_image (act.finishing t) next at image (both_in image (inr (subst
      (λ (x : Checkpoint). OpensTo CLASSES x image) (finishes_kept l.hand l t at.1) is)))

-- ---- ends

-- as many events as one run answers
budget_is : (n : ℕ) (why : End) → n ≤ budget → (is_budget why ≡ false → n < budget)
    → (why ≡ ends.Budget → n ≡ budget) → (why ≡ ends.Budget) ↔ (n ≡ budget)
budget_is n ends.End few fewer all =
    (λ is. absurd (cc), λ is. absurd (let less = fewer refl in omega (arith, less, is)))
budget_is n ends.Line few fewer all =
    (λ is. absurd (cc), λ is. absurd (let less = fewer refl in omega (arith, less, is)))
budget_is n ends.Disk few fewer all =
    (λ is. absurd (cc), λ is. absurd (let less = fewer refl in omega (arith, less, is)))
budget_is n ends.Source few fewer all =
    (λ is. absurd (cc), λ is. absurd (let less = fewer refl in omega (arith, less, is)))
budget_is n ends.Sink few fewer all =
    (λ is. absurd (cc), λ is. absurd (let less = fewer refl in omega (arith, less, is)))
budget_is n ends.Budget few fewer all = (all, λ is. refl)

-- the run ended by its budget after as many
budget_all : {D I O : Type 0} (seen : Seen D I O) (b new : Bench) (mid now : Held D I O) (n : ℕ) (why : End)
    → EndsIn CLASSES n b new (outside_of seen mid) (outside_of seen now) why → why ≡ ends.Budget
    → n ≡ budget
budget_all seen b new mid now n ends.End x is = absurd (cc)
budget_all seen b new mid now n ends.Line x is = absurd (cc)
budget_all seen b new mid now n ends.Disk x is = absurd (cc)
budget_all seen b new mid now n ends.Source x is = absurd (cc)
budget_all seen b new mid now n ends.Sink x is = absurd (cc)
budget_all seen b new mid now n ends.Budget x is = x.0

-- how many events the desk tells
counts_in : {D I O : Type 0} (seen : Seen D I O) (b new : Bench) (mid now : Held D I O) (n : ℕ) (why : End)
    → EndsIn CLASSES n b new (outside_of seen mid) (outside_of seen now) why → new.events ≡ b.events
counts_in seen b new mid now n ends.End x = x.events
counts_in seen b new mid now n ends.Line x = x.events
counts_in seen b new mid now n ends.Disk x = x.events
counts_in seen b new mid now n ends.Source x = x.events
counts_in seen b new mid now n ends.Sink x = x.events
counts_in seen b new mid now n ends.Budget x = ap (λ (y : Bench). y.events) x.1

-- ---- the whole

module _ {D I O : Type 0} (seen : Seen D I O) (old new : Bench) (before now : Held D I O) (why : End)
    (fresh : IsNewBench old.store old) (idle : old.store.in_hand ≡ None)
    (x : EndsDesk seen CLASSES old new before now why) where
  abbrev a : disk.State
  a = seen.disk before.disk

  abbrev y : disk.State
  y = seen.disk x.mid.disk

  abbrev z : disk.State
  z = seen.disk now.disk

  abbrev start : store.State
  start = state_of old.store a.file

  same_limits : limits_of x.bench.store ≡ limits_of old.store
  same_limits = ap (λ (u : SuperBlock). record { k = u.k; names = u.names; size_max = SIZE_MAX })
      x.played.block

  event : LastEvent (limits_of old.store) x.bench new (outside_of seen x.mid) (outside_of seen now) why
  event = last_event seen (limits_of old.store) x.n x.bench new x.mid now same_limits why x.last_turn
      x.same_disk x.same_sink

  at_budget : {A : Type 0} → (is_unread (turn.Ended why) ≡ true → A) → why ≡ ends.Budget → A
  at_budget is e = is (ap (λ (w : End). is_unread (turn.Ended w)) e)

  pub keeps_last : KeepsBench CLASSES x.bench new (outside_of seen x.mid) (outside_of seen now)
      (turn.Ended why)
  keeps_last = last_keeps seen x.n old x.bench new before x.mid now x.played why x.last_turn
      (at_budget x.same_disk) (λ e. x.same_source (ap is_budget e)) (at_budget x.same_sink)

  shown : Shows old a.file (new_desk start)
  shown = record {
    queues = fresh.queued;
    store = record {
      idle = λ none. (refl, refl);
      held = λ h is. absurd (no_hand is idle);
    };
  }

  rests_first : RestsOnTable (base_of old.store) old.store.kept a
      → RestsFrom CLASSES old.store a (kept_of start)
  rests_first rests = record { idle = λ none. rests; held = λ h is. absurd (no_hand is idle) }

  calm_turn : why ≢ ends.Disk → is_disk_fault {T = Unit {0}} (Err why) ≡ false
  calm_turn other = by why other
    where
      by : (w : End) → w ≢ ends.Disk → is_disk_fault {T = Unit {0}} (Err w) ≡ false
      by ends.End apart = refl
      by ends.Line apart = refl
      by ends.Disk apart = absurd (apart refl)
      by ends.Source apart = refl
      by ends.Sink apart = refl
      by ends.Budget apart = refl

  unbroken : why ≢ ends.Disk → new.store.is_broken ≡ false
  unbroken other = elim (cases_Bool new.store.is_broken) [
    | inl bad ↦ absurd (let e : false ≡ true = sym (calm_turn other) ∙ keeps_last.broken bad in cc)
    | inr fine ↦ fine
  ]

  went : IsTrue a.tells → DeskWent old.store new.store x.played.events event.next
      (devices a (seen.sink before.sink)) (devices z (seen.sink now.sink)) why
  went told =
      let p = x.played.plays told (new_desk start) shown in
      let l = last_from start p.desks in
      let told_mid : IsTrue y.tells = x.played.frame.stays.told ∙ told in
      let told_now : IsTrue z.tells = keeps_last.frame.stays.told ∙ told_mid in
      let t = event.turn told_mid l p.shown in
      let k = settled_before (kept_of start) (new_desk start) p.desks in
      record {
        answers = p.answers;
        desks = p.desks;
        plays = p.plays;
        was = t.was;
        at = t.at;
        by = t.by;
        puts = λ sink.
            let part = t.puts (x.played.sink_told ∙ sink) in
            record {
              partial = part.partial;
              put = part.given ∙ ap (λ (xs : List ℕ). xs ++ part.partial) (p.puts sink);
              part = part.part;
            };
        left = λ rests.
            let Q = IsImageFrom start p.answers p.desks t.was in
            Leaves-trans
            (Leaves-weaken Q (run_image (limits_of old.store) start x.played.events p.answers p.desks
            p.plays t.was event.next t.at) (p.left (kept_of start) (rests_first rests)))
            (Leaves-weaken Q (last_image (limits_of old.store) start x.played.events p.answers p.desks
            p.plays t.was event.next t.at)
            (t.leaves k (p.rests (kept_of start) (rests_first rests))).left);
        shown = λ other. (new.flush_of, t.shown other);
        opens = λ other rests image may. x.opens (unbroken other) told_now (desk_left l t.was)
            (t.shown other) (settled_of k l)
            ((t.leaves k (p.rests (kept_of start) (rests_first rests))).rests (calm_at why other)) image may;
        rests = λ other rests none.
            ((t.leaves k (p.rests (kept_of start) (rests_first rests))).rests (calm_at why other)).idle none;
      }

  -- the events that it tells are those that were answered
  pub told_events : new.events ≡ x.n
  told_events = omega (
    arith,
    counts_in seen x.bench new x.mid now x.n why x.last_turn,
    x.played.answered,
    fresh.none,
    x.few,
  )

  pub has_desked : (new.store.is_broken ≡ false → new.store.in_hand ≡ None → IsStore CLASSES new.store)
      → HasDesked (seen.source before.source) (seen.source now.source) old.store
      (devices a (seen.sink before.sink)) (devices z (seen.sink now.sink)) (end_of why x.n)
  has_desked sound = record {
    new = new.store;
    why = why;
    n = x.n;
    events = x.played.events;
    next = event.next;
    more = unread x.bench (seen.source x.mid.source);
    ended = refl;
    count = x.played.count;
    few = x.few;
    limit = budget_is x.n why x.few x.fewer (budget_all seen x.bench new x.mid now x.n why x.last_turn);
    each = x.played.each;
    whole = λ told. ap (λ (xs : List ℕ). xs ++ (seen.source before.source).left) (sym fresh.ahead)
        ∙ x.played.whole told;
    stops = λ told. event.stops (x.played.source_told ∙ told);
    went = went;
    readable = keeps_last.readable;
    sound = sound;
    unbroken = unbroken;
    block = λ other. keeps_last.block (calm_turn other) ∙ x.played.block;
    frame = frame_ran seen x.n old x.bench new before x.mid now x.played why keeps_last;
    causes = causes_ran seen x.n old x.bench new before x.mid now x.played why keeps_last x.n;
  }

-- ---- by the store that the desk was given

module _ {D I O : Type 0} (seen : Seen D I O) (s : StoreValue) (old new : Bench) (before now : Held D I O)
    (why : End) (end : Result (Unit {0}) StopReason) (fresh : IsNewBench s old) (idle : s.in_hand ≡ None)
    (x : EndsDesk seen CLASSES old new before now why) (ended : end ≡ end_of why new.events) where
  fresh_own : IsNewBench old.store old
  fresh_own = record {
    store = refl;
    ahead = fresh.ahead;
    queued = fresh.queued;
    fresh = fresh.fresh;
    none = fresh.none;
  }

  idle_own : old.store.in_hand ≡ None
  idle_own = ap (λ (t : StoreValue). t.in_hand) fresh.store ∙ idle

  ended_at : end ≡ end_of why x.n
  ended_at = ended ∙ ap (λ (n : ℕ). end_of why n)
      (told_events seen old new before now why fresh_own idle_own x)

  pub desk_steps : (new.store.is_broken ≡ false → new.store.in_hand ≡ None → IsStore CLASSES new.store)
      → IsDesking (seen.source before.source) (seen.source now.source) s
      (devices (seen.disk before.disk) (seen.sink before.sink))
      (devices (seen.disk now.disk) (seen.sink now.sink)) end
  desk_steps sound = inr (subst (λ (e : Result (Unit {0}) StopReason). HasDesked (seen.source before.source)
      (seen.source now.source) s (devices (seen.disk before.disk) (seen.sink before.sink))
      (devices (seen.disk now.disk) (seen.sink now.sink)) e) (sym ended_at)
      (subst (λ (t : StoreValue). HasDesked (seen.source before.source)
      (seen.source now.source) t (devices (seen.disk before.disk) (seen.sink before.sink))
      (devices (seen.disk now.disk) (seen.sink now.sink)) (end_of why x.n)) fresh.store
      (has_desked seen old new before now why fresh_own idle_own x sound)))

  pub desk_source : (same : Type 0)
      → KeepsSource (seen.source before.source) (seen.source now.source) same end
  desk_source same =
      let keeps = keeps_last seen old new before now why fresh_own idle_own x in
      subst (λ (e : Result (Unit {0}) StopReason).
      KeepsSource (seen.source before.source) (seen.source now.source) same e) (sym ended_at) (record {
        cause = source_ran seen x.n old x.bench new before x.mid now x.played why keeps x.n;
        told = keeps.told ∙ x.played.source_told;
        unread = λ none. absurd ((status_for why x.n).comes none);
      })
