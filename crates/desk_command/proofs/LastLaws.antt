-- The last turn of a desk, by what ended it.
use Rattle.std.specs.Prelude.{◌≡◌, ◌≢◌, ℕ, true, false, List, [], ◌∷◌, ◌++◌, Option, Some, None, Result, Ok, Err, IsTrue, refl}
use Rattle.std.proofs.Common.{arith, ap, sym, ◌∙◌, subst, inl, inr, append-nil}
use Rattle.size_class.specs.declared.TheConstants.{CLASSES}
use Rattle.store_model.specs.Connection.{StoreValue, limits_of}
use Rattle.store_model.specs.States.{Limits}
use Rattle.command_face.specs.Outcomes.{status_at}
use Rattle.ask_text.specs.declared.ends.End.{End}
use Rattle.ask_text.specs.declared.ends.End.TheVariants as ends
use Rattle.ask_text.specs.declared.ends.Turn.TheVariants as turn
use Rattle.ask_session.specs.Outside.{Held, Outside, Seen, outside_of}
use Rattle.ask_session.specs.Serving.{PutsText, is_disk_fault}
use Rattle.desk_model.specs.Answers.{Answer, answer_text}
use Rattle.desk_model.specs.Desks.{Desk, EventStep, Flush, end_lines}
use Rattle.desk_model.specs.Events.{Event}
use Rattle.desk_core.specs.Benches.{Bench, unread}
use Rattle.desk_core.specs.Images.{Checkpoint, LeavesFrom, RestsFrom, kept_of, settled_of}
use Rattle.desk_core.specs.Playing.{Finishes}
use Rattle.desk_core.specs.Runs.{EndsIn}
use Rattle.desk_core.specs.Shows.{Shows, ShowsStore}
use Rattle.desk_core.specs.Turns.{FinishesDesk, PlaysEvent, SameBench, is_unread}
use Rattle.desk_core.proofs.ImageLaws.{leaves_same}
use Rattle.desk_command.specs.Acts.{IsAct, LastAct, desk_left, text_of}
use Rattle.desk_command.specs.Acts as act
use Rattle.desk_command.specs.Doing.{ActsAt, IsPartial, StopsAt}
use Rattle.served_file.specs.Ends.{end_of}

-- ---- what is put

-- a front of a text was put behind other bytes
pub record HasPart (status : ℕ) (text before now : List ℕ) : Type 0 where
  pub partial : List ℕ
  pub given : now ≡ before ++ partial
  pub part : IsPartial status text partial

-- an end of a turn, as a result
abbrev pub result_at : End → Result (Unit {0}) End
result_at ends.End = Ok tt
result_at ends.Line = Err ends.Line
result_at ends.Disk = Err ends.Disk
result_at ends.Source = Err ends.Source
result_at ends.Sink = Err ends.Sink
result_at ends.Budget = Err ends.Budget

pub calm_at : (why : End) → why ≢ ends.Disk → is_disk_fault (result_at why) ≡ false
calm_at ends.End other = refl
calm_at ends.Line other = refl
calm_at ends.Disk other = absurd (other refl)
calm_at ends.Source other = refl
calm_at ends.Sink other = refl
calm_at ends.Budget other = refl

module _ (text before now : List ℕ) where
  part_whole : PutsText {T = Unit {0}} text before now (Ok tt)
      → HasPart (status_at (end_of ends.End 0)) text before now
  part_whole x = record {
    partial = text;
    given = x.all;
    part = record {
      rest = [];
      front = sym (append-nil text);
      whole = λ done. refl;
      cut = λ failed none. absurd (omega (arith, failed));
    };
  }

  part_disk : PutsText {T = Unit {0}} text before now (Err ends.Disk)
      → HasPart (status_at (end_of ends.Disk 0)) text before now
  part_disk x = record {
    partial = x.front.put;
    given = x.front.given;
    part = record {
      rest = x.front.rest;
      front = x.front.whole;
      whole = λ done. absurd (omega (arith, done));
      cut = λ failed none. x.front.some refl none;
    };
  }

  part_sink : PutsText {T = Unit {0}} text before now (Err ends.Sink)
      → HasPart (status_at (end_of ends.Sink 0)) text before now
  part_sink x = record {
    partial = x.front.put;
    given = x.front.given;
    part = record {
      rest = x.front.rest;
      front = x.front.whole;
      whole = λ done. absurd (omega (arith, done));
      cut = λ failed none. absurd (omega (arith, failed));
    };
  }

-- nothing was to be put
pub part_none : (status : ℕ) (before now : List ℕ) → now ≡ before → HasPart status [] before now
part_none status before now same = record {
  partial = [];
  given = same ∙ sym (append-nil before);
  part = record { rest = []; front = refl; whole = λ done. refl; cut = λ failed none. refl };
}

-- ---- the turn

-- What a desk was at in its last turn, what it put and left, and what its store shows then.
pub record LastTurn (limits : Limits) (b new : Bench) (before now : Outside) (why : End) (next : List Event)
    (d : Desk) : Type 0 where
  pub was : LastAct
  pub at : IsAct limits d next was
  pub by : ActsAt why was
  pub puts : IsTrue before.sink.tells
      → HasPart (status_at (end_of why 0)) (text_of d was) before.sink.given now.sink.given
  pub leaves : (k : Checkpoint) → RestsFrom CLASSES b.store before.disk k
      → LeavesFrom CLASSES new.store before.disk now.disk (settled_of k d) (kept_of (desk_left d was).state)
      (result_at why)
  pub shown : why ≢ ends.Disk → ShowsStore new.store new.flush_of now.disk.file (desk_left d was)

-- The event that it was at, if it was at one, and what the input had left then.
pub record LastEvent (limits : Limits) (b new : Bench) (before now : Outside) (why : End) : Type 0 where
  pub next : List Event
  pub stops : IsTrue before.source.tells → StopsAt why next (unread b before.source)
  pub turn : IsTrue before.disk.tells → (d : Desk) → Shows b before.disk.file d
      → LastTurn limits b new before now why next d

-- a flush that settles leaves the checkpoint
pub finishes_kept : (o : Option Flush) (d t : Desk) → Finishes o d t → kept_of t.state ≡ kept_of d.state
finishes_kept None d t is = ap (λ (x : Desk). kept_of x.state) is
finishes_kept (Some f) d t is = ap (λ (x : Desk). kept_of x.state) is.3

module _ (limits : Limits) (b new : Bench) (before now : Outside) where
  abbrev Ends : End → Type 0
  Ends why = LastEvent limits b new before now why

  -- ---- at an event

  module _ (same_limits : limits_of b.store ≡ limits) where
    event_at : (e : Event) (d : Desk) (a : Answer) (t : Desk) → EventStep (limits_of b.store) d e a t
        → EventStep limits d e a t
    event_at e d a t step = subst (λ (x : Limits). EventStep x d e a t) same_limits step

    event_disk : PlaysEvent CLASSES b new before now (Err ends.Disk) → Ends ends.Disk
    event_disk x = record {
      next = x.event ∷ [];
      stops = λ told. inr (x.event, x.is_event, refl, unread new now.source, x.whole told);
      turn = λ told d shown.
          let p = x.plays told d shown in
          record {
            was = act.answering p.answer p.desk;
            at = event_at x.event d p.answer p.desk p.step;
            by = tt;
            puts = λ sink. part_disk (answer_text p.answer) before.sink.given now.sink.given (p.puts sink);
            leaves = λ k rests. x.images told d shown k rests p.answer p.desk p.step;
            shown = λ other. absurd (other refl);
          };
    }

    event_sink : PlaysEvent CLASSES b new before now (Err ends.Sink) → Ends ends.Sink
    event_sink x = record {
      next = x.event ∷ [];
      stops = λ told. inr (x.event, x.is_event, refl, unread new now.source, x.whole told);
      turn = λ told d shown.
          let p = x.plays told d shown in
          record {
            was = act.answering p.answer p.desk;
            at = event_at x.event d p.answer p.desk p.step;
            by = tt;
            puts = λ sink. part_sink (answer_text p.answer) before.sink.given now.sink.given (p.puts sink);
            leaves = λ k rests. x.images told d shown k rests p.answer p.desk p.step;
            shown = λ other. (p.shown refl).store;
          };
    }

  -- ---- at the end of the input

  finish_leaves : (result : Result (Unit {0}) End) (d t : Desk) → Finishes d.hand d t
      → ((k : Checkpoint) → RestsFrom CLASSES b.store before.disk k
      → LeavesFrom CLASSES new.store before.disk now.disk (settled_of k d) (kept_of d.state) result)
      → (k : Checkpoint) → RestsFrom CLASSES b.store before.disk k
      → LeavesFrom CLASSES new.store before.disk now.disk (settled_of k d) (kept_of t.state) result
  finish_leaves result d t done leaves k rests =
      subst (λ (x : Checkpoint). LeavesFrom CLASSES new.store before.disk now.disk (settled_of k d) x result)
      (sym (finishes_kept d.hand d t done)) (leaves k rests)

  finish_done : FinishesDesk CLASSES b new before now (Ok tt) → Ends ends.End
  finish_done x = record {
    next = [];
    stops = λ told. (refl, x.ended told);
    turn = λ told d shown.
        let p = x.plays told d shown in
        record {
          was = act.finishing p.desk;
          at = (refl, p.finished);
          by = tt;
          puts = λ sink. part_whole (end_lines d) before.sink.given now.sink.given (p.puts sink);
          leaves = finish_leaves (Ok tt) d p.desk p.finished (x.images told d shown);
          shown = λ other. (p.shown refl).store;
        };
  }

  finish_disk : FinishesDesk CLASSES b new before now (Err ends.Disk) → Ends ends.Disk
  finish_disk x = record {
    next = [];
    stops = λ told. inl (refl, x.ended told);
    turn = λ told d shown.
        let p = x.plays told d shown in
        record {
          was = act.finishing p.desk;
          at = (refl, p.finished);
          by = tt;
          puts = λ sink. part_disk (end_lines d) before.sink.given now.sink.given (p.puts sink);
          leaves = finish_leaves (Err ends.Disk) d p.desk p.finished (x.images told d shown);
          shown = λ other. absurd (other refl);
        };
  }

  finish_sink : FinishesDesk CLASSES b new before now (Err ends.Sink) → Ends ends.Sink
  finish_sink x = record {
    next = [];
    stops = λ told. inl (refl, x.ended told);
    turn = λ told d shown.
        let p = x.plays told d shown in
        record {
          was = act.finishing p.desk;
          at = (refl, p.finished);
          by = tt;
          puts = λ sink. part_sink (end_lines d) before.sink.given now.sink.given (p.puts sink);
          leaves = finish_leaves (Err ends.Sink) d p.desk p.finished (x.images told d shown);
          shown = λ other. (p.shown refl).store;
        };
  }

-- ---- at nothing

module _ {D I O : Type 0} (seen : Seen D I O) (limits : Limits) (b new : Bench) (mid now : Held D I O)
    (bench : SameBench b new) (same_disk : now.disk ≡ mid.disk) (same_sink : now.sink ≡ mid.sink) where
  shown_still : (d : Desk) → Shows b (seen.disk mid.disk).file d
      → ShowsStore new.store new.flush_of (seen.disk now.disk).file d
  shown_still d shown =
      subst (λ (x : D). ShowsStore new.store new.flush_of (seen.disk x).file d) (sym same_disk)
      (subst (λ (n : ℕ). ShowsStore new.store n (seen.disk mid.disk).file d) (sym bench.flush_of)
      (subst (λ (s : StoreValue). ShowsStore s b.flush_of (seen.disk mid.disk).file d) (sym bench.store)
      shown.store))

  still : (why : End) → ActsAt why act.nothing
      → (IsTrue (seen.source mid.source).tells → StopsAt why [] (unread b (seen.source mid.source)))
      → LastEvent limits b new (outside_of seen mid) (outside_of seen now) why
  still why acts stops = record {
    next = [];
    stops = stops;
    turn = λ told d shown. record {
      was = act.nothing;
      at = tt;
      by = acts;
      puts = λ sink. part_none (status_at (end_of why 0)) (seen.sink mid.sink).given
          (seen.sink now.sink).given (ap (λ (x : O). (seen.sink x).given) same_sink);
      leaves = λ k rests. leaves_same b.store new.store b.flush_of (seen.disk mid.disk) (seen.disk now.disk) d
          (kept_of d.state) (result_at why) shown.store bench.store (ap seen.disk same_disk) k rests;
      shown = λ other. shown_still d shown;
    };
  }

-- ---- all of them

module _ {D I O : Type 0} (seen : Seen D I O) (limits : Limits) (n : ℕ) (b new : Bench) (mid now : Held D I O)
    (same_limits : limits_of b.store ≡ limits) where
  pub last_event : (why : End)
      → EndsIn CLASSES n b new (outside_of seen mid) (outside_of seen now) why
      → (is_unread (turn.Ended why) ≡ true → now.disk ≡ mid.disk)
      → (is_unread (turn.Ended why) ≡ true → now.sink ≡ mid.sink)
      → LastEvent limits b new (outside_of seen mid) (outside_of seen now) why
  last_event ends.End x disk sink =
      finish_done limits b new (outside_of seen mid) (outside_of seen now) x.turns
  last_event ends.Line x disk sink = still seen limits b new mid now x.turns.0 (disk refl) (sink refl)
      ends.Line refl (λ told. (refl, (x.turns.1 told).0, (x.turns.1 told).1))
  last_event ends.Disk x disk sink = elim x.turns
      as (λ _. LastEvent limits b new (outside_of seen mid) (outside_of seen now) ends.Disk) [
        | inl event ↦ event_disk limits b new (outside_of seen mid) (outside_of seen now) same_limits event
        | inr finish ↦ finish_disk limits b new (outside_of seen mid) (outside_of seen now) finish
      ]
  last_event ends.Source x disk sink = still seen limits b new mid now x.turns (disk refl) (sink refl)
      ends.Source refl (λ told. refl)
  last_event ends.Sink x disk sink = elim x.turns
      as (λ _. LastEvent limits b new (outside_of seen mid) (outside_of seen now) ends.Sink) [
        | inl event ↦ event_sink limits b new (outside_of seen mid) (outside_of seen now) same_limits event
        | inr finish ↦ finish_sink limits b new (outside_of seen mid) (outside_of seen now) finish
      ]
  last_event ends.Budget x disk sink = still seen limits b new mid now (record {
    store = ap (λ (y : Bench). y.store) x.1;
    queued = ap (λ (y : Bench). y.queued) x.1;
    flush_of = ap (λ (y : Bench). y.flush_of) x.1;
  }) (disk refl) (sink refl) ends.Budget refl (λ told. refl)
