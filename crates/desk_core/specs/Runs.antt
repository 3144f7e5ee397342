-- A run of a desk: events that are answered one after another.
use Rattle.std.specs.Prelude.{◌≡◌, ℕ, ◌<◌, ◌≤◌, true, false, List, ◌++◌, flat_map, length, IsTrue}
use Rattle.std.specs.List.{AllByRecursion}
use Rattle.disk_face.specs.Counts.{counted}
use Rattle.disk_face.specs.Moments.{Leaves}
use Rattle.disk_face.specs.Writes.{KeepsDisk}
use Rattle.store_model.specs.Connection.{limits_of}
use Rattle.store_model.specs.Halves.{IsReadable}
use Rattle.ask_text.specs.Ends.{is_budget}
use Rattle.ask_text.specs.declared.ends.End.{End}
use Rattle.ask_text.specs.declared.ends.End.TheVariants as ends
use Rattle.ask_text.specs.declared.ends.Turn.TheVariants as turn
use Rattle.ask_session.specs.Outside.{Held, Outside, Seen, outside_of}
use Rattle.desk_model.specs.Answers.{Answer, answer_text}
use Rattle.desk_model.specs.Desks.{Desk, Plays, last_desk}
use Rattle.desk_model.specs.Events.{Event, IsEvent, event_text}
use Rattle.desk_core.specs.Benches.{Bench, unread}
use Rattle.desk_core.specs.Images.{Checkpoint, IsDeskImage, OpensNow, RestsFrom, settled_before}
use Rattle.desk_core.specs.Shows.{Shows}
use Rattle.desk_core.specs.Turns.{IsDeskTurn, KeepsBench, is_unread}

-- how many events one run answers at most
abbrev pub budget : ℕ
budget = 4294967296

-- Events were answered, by the desk's definition, and the desk is shown after them; the texts of all answers
-- were put. What a crash may leave meanwhile opens to the checkpoint that was settled at first, or to that of
-- the desk after one of them.
pub record PlaysAll (classes : ℕ) (d : Desk) (es : List Event) (old new : Bench)
    (before now : Outside) : Type 0 where
  pub answers : List Answer
  pub desks : List Desk
  pub plays : Plays (limits_of old.store) d es answers desks
  pub shown : Shows new now.disk.file (last_desk d desks)
  pub puts : IsTrue before.sink.tells → now.sink.given ≡ before.sink.given ++ flat_map answer_text answers
  pub left : (k : Checkpoint) → RestsFrom classes old.store before.disk k
      → Leaves before.disk now.disk (IsDeskImage classes k d desks)
  pub rests : (k : Checkpoint) → RestsFrom classes old.store before.disk k
      → RestsFrom classes new.store now.disk (settled_before k d desks)

-- So many events were answered one after another. Their texts stood in front of the unread input. The store's
-- objects may still be read, and no call of a device failed.
pub record HasPlayed (classes : ℕ) (old new : Bench) (before now : Outside) (n : ℕ) : Type 0 where
  pub events : List Event
  pub count : length events ≡ n
  pub each : AllByRecursion IsEvent events
  pub whole : IsTrue before.source.tells
      → unread old before.source ≡ flat_map event_text events ++ unread new now.source
  pub plays : IsTrue before.disk.tells → (d : Desk) → Shows old before.disk.file d
      → PlaysAll classes d events old new before now
  pub answered : new.events ≡ counted old.events n
  pub fresh : new.ended ≡ false
  pub unbroken : new.store.is_broken ≡ false
  pub readable : IsReadable classes new.store now.disk
  pub block : new.store.in_use.block ≡ old.store.in_use.block
  pub frame : KeepsDisk before.disk now.disk
  pub source_told : now.source.tells ≡ before.source.tells
  pub source_calm : now.source.faults ≡ before.source.faults
  pub disk_calm : now.disk.faults ≡ before.disk.faults
  pub sink_told : now.sink.tells ≡ before.sink.tells
  pub sink_calm : now.sink.faults ≡ before.sink.faults

-- the last event of a run, by its end
pub record IsLastTurn (classes : ℕ) (b new : Bench) (before now : Outside) (end : End) : Type 0 where
  pub turns : IsDeskTurn classes b new before now (turn.Ended end)
  pub keeps : KeepsBench classes b new before now (turn.Ended end)
  pub events : new.events ≡ b.events

abbrev pub EndsIn : ℕ → ℕ → Bench → Bench → Outside → Outside → End → Type 0
EndsIn classes n b new before now ends.Budget = (n ≡ budget) × (new ≡ b)
EndsIn classes n b new before now ends.End = IsLastTurn classes b new before now ends.End
EndsIn classes n b new before now ends.Line = IsLastTurn classes b new before now ends.Line
EndsIn classes n b new before now ends.Disk = IsLastTurn classes b new before now ends.Disk
EndsIn classes n b new before now ends.Source = IsLastTurn classes b new before now ends.Source
EndsIn classes n b new before now ends.Sink = IsLastTurn classes b new before now ends.Sink

-- A run and its end: after the last event that was answered one more turn ended the desk, or as many were
-- answered as may be. `mid` are the devices before that turn, of which disk and sink are those after it where
-- no event was read, and the source too where there was no such turn.
pub record EndsDesk {D I O : Type 0} (seen : Seen D I O) (classes : ℕ) (old new : Bench)
    (before now : Held D I O) (end : End) : Type 0 where
  pub bench : Bench
  pub mid : Held D I O
  pub n : ℕ
  pub played : HasPlayed classes old bench (outside_of seen before) (outside_of seen mid) n
  pub few : n ≤ budget
  pub fewer : is_budget end ≡ false → n < budget
  pub last_turn : EndsIn classes n bench new (outside_of seen mid) (outside_of seen now) end
  pub ended : is_budget end ≡ false → new.ended ≡ true
  pub opens : new.store.is_broken ≡ false
      → OpensNow classes new.store new.flush_of (seen.disk now.disk)
  pub same_disk : is_unread (turn.Ended end) ≡ true → now.disk ≡ mid.disk
  pub same_sink : is_unread (turn.Ended end) ≡ true → now.sink ≡ mid.sink
  pub same_source : is_budget end ≡ true → now.source ≡ mid.source
