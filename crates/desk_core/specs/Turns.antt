-- What one event at a desk does.
use Rattle.std.specs.Prelude.{◌≡◌, ◌⊎◌, ℕ, Bool, true, false, [], ◌++◌, Result, Ok, Err, IsTrue}
use Rattle.disk_face.specs.Counts.{counted}
use Rattle.disk_face.specs.Writes.{KeepsDisk}
use Rattle.slot_pair.specs.Finding.{HasDiskCause}
use Rattle.data_area.specs.Causes.{HasSinkCause}
use Rattle.store_model.specs.Connection.{limits_of}
use Rattle.store_model.specs.Halves.{IsReadable}
use Rattle.ask_text.specs.Ends.{result_of}
use Rattle.ask_text.specs.declared.ends.End.{End}
use Rattle.ask_text.specs.declared.ends.End.TheVariants as ends
use Rattle.ask_text.specs.declared.ends.Turn.{Turn}
use Rattle.ask_text.specs.declared.ends.Turn.TheVariants as turn
use Rattle.ask_session.specs.Inputs.{HasSourceCause}
use Rattle.ask_session.specs.Outside.{Outside}
use Rattle.ask_session.specs.Serving.{PutsText, is_disk_fault}
use Rattle.desk_model.specs.Desks.{Desk, EventStep, end_lines}
use Rattle.desk_model.specs.Events.{BeginsNoEvent, Event, IsEvent, event_text}
use Rattle.desk_core.specs.Benches.{Bench, unread}
use Rattle.desk_core.specs.Images.{LeavesEnd, LeavesStep}
use Rattle.desk_core.specs.Playing.{Finishes, PlaysOne, CallsOnce}
use Rattle.desk_core.specs.Shows.{Shows}

-- The text of an event stood in front of the unread input, and the event was answered. What a crash may leave
-- meanwhile opens to the checkpoint that was settled before, or to that of the desk after it.
pub record PlaysEvent (classes : ℕ) (old new : Bench) (before now : Outside)
    (result : Result (Unit {0}) End) : Type 0 where
  pub event : Event
  pub is_event : IsEvent event
  pub whole : IsTrue before.source.tells
      → unread old before.source ≡ event_text event ++ unread new now.source
  pub calls : CallsOnce old.store new.store before.disk now.disk
  pub plays : IsTrue before.disk.tells → (d : Desk) → Shows old before.disk.file d
      → PlaysOne (EventStep (limits_of old.store) d event) (Shows new now.disk.file) before.sink now.sink
      result
  pub images : IsTrue before.disk.tells → (d : Desk) → Shows old before.disk.file d
      → LeavesStep classes (EventStep (limits_of old.store) d event) old.store new.store before.disk now.disk
      d result

-- The desk has finished: a flush in hand has settled, and the last lines were put, or a front of them where a
-- device failed.
pub record FinishesOne (d : Desk) (new : Bench) (before now : Outside) (result : Result (Unit {0}) End)
    : Type 0 where
  pub desk : Desk
  pub finished : Finishes d.hand d desk
  pub shown : is_disk_fault result ≡ false → Shows new now.disk.file desk
  pub puts : IsTrue before.sink.tells → PutsText (end_lines d) before.sink.given now.sink.given result

-- Nothing was left of the input, and the desk has finished. What a crash may leave meanwhile opens to the
-- checkpoint that was settled before, or to that of the desk.
pub record FinishesDesk (classes : ℕ) (old new : Bench) (before now : Outside)
    (result : Result (Unit {0}) End) : Type 0
  where
    pub ended : IsTrue before.source.tells → unread old before.source ≡ []
    pub plays : IsTrue before.disk.tells → (d : Desk) → Shows old before.disk.file d
        → FinishesOne d new before now result
    pub images : IsTrue before.disk.tells → (d : Desk) → Shows old before.disk.file d
        → LeavesEnd classes old.store new.store before.disk now.disk d result

-- nothing was done
pub record SameBench (old new : Bench) : Type 0 where
  pub store : new.store ≡ old.store
  pub queued : new.queued ≡ old.queued
  pub flush_of : new.flush_of ≡ old.flush_of

-- what an event did, by the answer
abbrev pub IsDeskTurn : ℕ → Bench → Bench → Outside → Outside → Turn → Type 0
IsDeskTurn classes old new before now turn.Answered = PlaysEvent classes old new before now (Ok tt)
IsDeskTurn classes old new before now (turn.Ended ends.Disk) =
    PlaysEvent classes old new before now (Err ends.Disk)
    ⊎ FinishesDesk classes old new before now (Err ends.Disk)
IsDeskTurn classes old new before now (turn.Ended ends.Sink) =
    PlaysEvent classes old new before now (Err ends.Sink)
    ⊎ FinishesDesk classes old new before now (Err ends.Sink)
IsDeskTurn classes old new before now (turn.Ended ends.End) = FinishesDesk classes old new before now (Ok tt)
IsDeskTurn classes old new before now (turn.Ended ends.Line) =
    SameBench old new × (IsTrue before.source.tells → (unread old before.source ≡ [] → ⊥)
    × BeginsNoEvent (unread old before.source))
IsDeskTurn classes old new before now (turn.Ended ends.Source) = SameBench old new
IsDeskTurn classes old new before now (turn.Ended ends.Budget) = ⊥

-- no event was read, and the input isn't at its end
abbrev pub is_unread : Turn → Bool
is_unread turn.Answered = false
is_unread (turn.Ended ends.Line) = true
is_unread (turn.Ended ends.Source) = true
is_unread (turn.Ended ends.End) = false
is_unread (turn.Ended ends.Disk) = false
is_unread (turn.Ended ends.Sink) = false
is_unread (turn.Ended ends.Budget) = true

-- What holds of a desk and its devices after any event: the store's objects may be read; it is broken only
-- where the disk failed, and has the same block where it didn't; and each fault has its cause.
pub record KeepsBench (classes : ℕ) (old new : Bench) (before now : Outside) (t : Turn) : Type 0 where
  pub readable : IsReadable classes new.store now.disk
  pub broken : new.store.is_broken ≡ true → is_disk_fault (result_of t) ≡ true
  pub block : is_disk_fault (result_of t) ≡ false → new.store.in_use.block ≡ old.store.in_use.block
  pub frame : KeepsDisk before.disk now.disk
  pub told : now.source.tells ≡ before.source.tells
  pub source_cause : HasSourceCause before.source.faults now.source.faults (result_of t)
  pub disk_cause : HasDiskCause ends.Disk before.disk.faults now.disk.faults (result_of t)
  pub sink_cause : HasSinkCause ends.Sink before.sink now.sink (result_of t)

-- the turn that a result comes to
abbrev pub turn_of : Result (Unit {0}) End → Turn
turn_of (Ok x) = turn.Answered
turn_of (Err end) = turn.Ended end

-- the bench then: the event is counted, or it has ended
abbrev pub counted_bench : Bench → Result (Unit {0}) End → Bench
counted_bench b (Ok x) = record b { events = counted b.events 1 }
counted_bench b (Err end) = record b { ended = true }

-- how a desk ends at the end of its input
abbrev pub end_of : Result (Unit {0}) End → End
end_of (Ok x) = ends.End
end_of (Err end) = end
