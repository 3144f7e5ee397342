-- One event at a desk, by what was read and what that came to.
use Rattle.std.specs.Prelude.{◌≡◌, ℕ, ◌<◌, true, List, [], ◌∷◌, ◌++◌, Option, Some, None, Result, Ok, Err, IfErr, IsTrue}
use Rattle.std.proofs.Common.{arith, ap, sym, ◌∙◌, subst, inl, inr}
use Rattle.disk_face.specs.States as disk
use Rattle.disk_face.specs.Streams.{SinkState}
use Rattle.map_model.specs.Requests.{Request}
use Rattle.store_model.specs.Connection.{StoreValue, limits_of}
use Rattle.store_model.specs.States.{State}
use Rattle.ask_text.specs.declared.ends.End.{End}
use Rattle.ask_text.specs.declared.ends.End.TheVariants as ends
use Rattle.ask_text.specs.declared.ends.Turn.TheVariants as turn
use Rattle.ask_session.specs.Outside.{Outside}
use Rattle.ask_session.specs.Serving.{IsServingFault}
use Rattle.ask_lines.proofs.LineLaws.{not_empty}
use Rattle.desk_model.specs.Answers.{Answer}
use Rattle.desk_model.specs.Desks.{Desk, EventStep, Flush, StepsOn, waiting}
use Rattle.desk_model.specs.Events as event
use Rattle.desk_model.specs.Events.{Event, IsEvent, event_text, sessions}
use Rattle.desk_queues.specs.Queues.{Holds, Queued}
use Rattle.desk_core.specs.declared.event.EventLine.TheVariants as line
use Rattle.desk_core.specs.Benches.{Bench, unread}
use Rattle.desk_core.specs.Images.{LeavesEnd, LeavesStep}
use Rattle.desk_core.specs.Hearing.{HearsOne, HoldsBeside, IsHeard, talk}
use Rattle.desk_core.specs.Lines.{words_of}
use Rattle.desk_core.specs.Playing.{Finishes, FinishesStore, PlaysOne, CallsOnce}
use Rattle.desk_core.specs.Shows.{Shows, ShowsFlush, ShowsParts, ShowsStore}
use Rattle.desk_core.specs.Turns.{FinishesDesk, IsDeskTurn, PlaysEvent, counted_bench, end_of, turn_of}
use Rattle.desk_core.proofs.ImageLaws.{step_same}
use Rattle.desk_core.proofs.EventLaws.{no_request, text_begins}

module _ (C : ℕ) (old b : Bench) (before now : Outside) where
  -- ---- what was said

  module _ (session : ℕ) (low : session < sessions) (mid : List ℕ)
      (whole : IsTrue before.source.tells → unread old before.source ≡ words_of (line.Say session) ++ 10 ∷
      mid)
      (store : b.store ≡ old.store) (flush_of : b.flush_of ≡ old.flush_of) (still : now.disk ≡ before.disk)
    where
      -- the desk beside what waits
      shown_beside : (d d' : Desk) → ShowsStore old.store old.flush_of before.disk.file d
          → HoldsBeside b.queued d d' → ShowsParts b.queued b.store b.flush_of now.disk.file d'
      shown_beside d d' shown beside = record {
        queues = beside.queues;
        store = subst (λ (s : StoreValue). ShowsStore s b.flush_of now.disk.file d') (sym store)
            (subst (λ (n : ℕ). ShowsStore old.store n now.disk.file d') (sym flush_of)
            (subst (λ (x : List ℕ). ShowsStore old.store old.flush_of x d') (sym (λ i. (still i).file))
            (record {
              idle = λ none. let e = shown.idle none in (beside.hand ∙ e.0, beside.state ∙ e.1);
              held = λ h is.
                  let k = shown.held h is in (
                    k.0,
                    beside.hand ∙ k.1,
                    subst (λ (t : State). ShowsFlush old.store old.flush_of before.disk.file h t k.0)
                        (sym beside.state) k.2,
                  );
            })));
      }

      heard : (result : Result (Unit {0}) End)
          → HearsOne (IsTrue before.source.tells) session old.queued b.queued (talk mid before.sink)
          (talk (unread b now.source) now.sink) result
          → PlaysEvent C old b before now result
      heard result h = record {
        event = event.say session h.request;
        is_event = (low, h.has_text);
        whole = λ told. whole told
            ∙ ap (λ (xs : List ℕ). words_of (line.Say session) ++ 10 ∷ xs) (h.whole told)
            ∙ sym (text_begins (event.say session h.request) (unread b now.source));
        calls = inl (omega (arith, ap (λ (x : disk.State). x.turn) still));
        plays = λ told d shown.
            let x = h.plays d shown.queues in
            record {
              answer = x.answer;
              desk = x.desk;
              step = x.step;
              shown = λ calm. shown_beside d x.desk shown.store (x.shown calm);
              puts = x.puts;
            };
        images = λ told d shown. step_same (EventStep (limits_of old.store) d (event.say session h.request))
            old.store b.store old.flush_of before.disk now.disk d result shown.store store still;
      }

      pub say_turn : (result : Result (Unit {0}) End)
          → IsHeard (IsTrue before.source.tells) session old.queued b.queued (talk mid before.sink)
          (talk (unread b now.source) now.sink) result
          → IsDeskTurn C old (counted_bench b result) before now (turn_of result)
      say_turn (Ok x) h = counts (heard (Ok tt) h)
        where
          counts : PlaysEvent C old b before now (Ok tt)
              → PlaysEvent C old (counted_bench b (Ok tt)) before now (Ok tt)
          counts e = record {
            event = e.event;
            is_event = e.is_event;
            whole = e.whole;
            calls = e.calls;
            plays = e.plays;
            images = e.images;
          }
      say_turn (Err ends.Sink) h =
          let e = heard (Err ends.Sink) h in
          inl (record {
            event = e.event;
            is_event = e.is_event;
            whole = e.whole;
            calls = e.calls;
            plays = e.plays;
            images = e.images;
          })
      say_turn (Err ends.Line) h = (
        record { store = store; queued = h.0; flush_of = flush_of },
        λ told. (
          not_empty (unread old before.source) (words_of (line.Say session)) mid (whole told),
          no_request (unread old before.source) mid session low (whole told) (h.1 told),
        ),
      )
      say_turn (Err ends.Source) h = record { store = store; queued = h; flush_of = flush_of }
      say_turn (Err ends.End) h = absurd h
      say_turn (Err ends.Disk) h = absurd h
      say_turn (Err ends.Budget) h = absurd h

  -- ---- what was done

  pub event_turn : (e : Event) → IsEvent e
      → (IsTrue before.source.tells → unread old before.source ≡ event_text e ++ unread b now.source)
      → CallsOnce old.store b.store before.disk now.disk
      → (result : Result (Unit {0}) End) → IfErr result IsServingFault
      → (IsTrue before.disk.tells → (d : Desk) → ShowsParts old.queued old.store old.flush_of
      before.disk.file d
      → PlaysOne (EventStep (limits_of old.store) d e)
      (ShowsParts b.queued b.store b.flush_of now.disk.file) before.sink now.sink result)
      → (IsTrue before.disk.tells → (d : Desk) → Shows old before.disk.file d
      → LeavesStep C (EventStep (limits_of old.store) d e) old.store b.store before.disk now.disk d result)
      → IsDeskTurn C old (counted_bench b result) before now (turn_of result)
  event_turn e is whole once (Ok x) only plays images =
      record { event = e; is_event = is; whole = whole; calls = once; plays = plays; images = images }
  event_turn e is whole once (Err ends.Disk) only plays images =
      inl (record { event = e; is_event = is; whole = whole; calls = once; plays = plays; images = images })
  event_turn e is whole once (Err ends.Sink) only plays images =
      inl (record { event = e; is_event = is; whole = whole; calls = once; plays = plays; images = images })
  event_turn e is whole once (Err ends.Line) only plays images = absurd only
  event_turn e is whole once (Err ends.Source) only plays images = absurd only
  event_turn e is whole once (Err ends.End) only plays images = absurd only
  event_turn e is whole once (Err ends.Budget) only plays images = absurd only

  -- ---- the end

  finishes_queues : (o : Option Flush) (d d' : Desk) → Finishes o d d' → d'.queues ≡ d.queues
  finishes_queues None d d' is = ap (λ (x : Desk). x.queues) is
  finishes_queues (Some f) d d' is = ap (λ (x : Desk). x.queues) is.3

  module _ (none : IsTrue before.source.tells → unread old before.source ≡ []) (count : ℕ)
      (counted : (d : Desk) → Holds old.queued d.queues → count ≡ waiting d.queues)
      (queued : b.queued ≡ old.queued) where
    finishes : (result : Result (Unit {0}) End)
        → (IsTrue before.disk.tells → (d : Desk) → count ≡ waiting d.queues
        → ShowsStore old.store old.flush_of before.disk.file d
        → FinishesStore d b.store b.flush_of now.disk.file before.sink now.sink result)
        → (IsTrue before.disk.tells → (d : Desk) → ShowsStore old.store old.flush_of before.disk.file d
        → LeavesEnd C old.store b.store before.disk now.disk d result)
        → FinishesDesk C old (record b { ended = true }) before now result
    finishes result plays images = record {
      ended = none;
      plays = λ told d shown.
          let x = plays told d (counted d shown.queues) shown.store in
          record {
            desk = x.desk;
            finished = x.finished;
            shown = λ calm. record {
              queues = subst (λ (qs : List (List Request)). Holds b.queued qs)
                  (sym (finishes_queues d.hand d x.desk x.finished))
                  (subst (λ (q : Queued). Holds q d.queues) (sym queued) shown.queues);
              store = x.shown calm;
            };
            puts = x.puts;
          };
      images = λ told d shown. images told d shown.store;
    }

    pub finish_turn : (result : Result (Unit {0}) End) → IfErr result IsServingFault
        → (IsTrue before.disk.tells → (d : Desk) → count ≡ waiting d.queues
        → ShowsStore old.store old.flush_of before.disk.file d
        → FinishesStore d b.store b.flush_of now.disk.file before.sink now.sink result)
        → (IsTrue before.disk.tells → (d : Desk) → ShowsStore old.store old.flush_of before.disk.file d
        → LeavesEnd C old.store b.store before.disk now.disk d result)
        → IsDeskTurn C old (record b { ended = true }) before now (turn.Ended (end_of result))
    finish_turn (Ok x) only plays images = finishes (Ok tt) plays images
    finish_turn (Err ends.Disk) only plays images = inr (finishes (Err ends.Disk) plays images)
    finish_turn (Err ends.Sink) only plays images = inr (finishes (Err ends.Sink) plays images)
    finish_turn (Err ends.Line) only plays images = absurd only
    finish_turn (Err ends.Source) only plays images = absurd only
    finish_turn (Err ends.End) only plays images = absurd only
    finish_turn (Err ends.Budget) only plays images = absurd only

-- ---- what waits stays in a step

steps_queues : (o : Option Flush) (d d' : Desk) (a : Answer) → StepsOn o d a d' → d'.queues ≡ d.queues
steps_queues None d d' a is = ap (λ (x : Desk). x.queues) is.1
steps_queues (Some f) d d' a (inl m) = ap (λ (x : Desk). x.queues) m.desk
steps_queues (Some f) d d' a (inr m) = ap (λ (x : Desk). x.queues) m.desk

pub step_parts : (d : Desk) (q : Queued) (t : StoreValue) (n : ℕ) (file : List ℕ) (out after : SinkState)
    (result : Result (Unit {0}) End) → Holds q d.queues
    → PlaysOne (StepsOn d.hand d) (ShowsStore t n file) out after result
    → PlaysOne (StepsOn d.hand d) (ShowsParts q t n file) out after result
step_parts d q t n file out after result holds x = record {
  answer = x.answer;
  desk = x.desk;
  step = x.step;
  shown = λ calm. record {
    queues = subst (λ (qs : List (List Request)). Holds q qs)
        (sym (steps_queues d.hand d x.desk x.answer x.step)) holds;
    store = x.shown calm;
  };
  puts = x.puts;
}
