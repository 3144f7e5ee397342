-- What the store, its disk and the sink do in one event.
use Rattle.std.specs.Prelude.{◌≡◌, ◌⊎◌, ℕ, ◌+◌, ◌≤◌, ◌<◌, false, true, List, Option, Some, None, Result, Ok, Err, IfErr, IsTrue}
use Rattle.std.specs.FinMap as fin
use Rattle.disk_face.specs.Devices.{Devices}
use Rattle.disk_face.specs.States as disk
use Rattle.disk_face.specs.Streams.{SinkState}
use Rattle.disk_face.specs.Writes.{KeepsDisk}
use Rattle.data_area.specs.Pieces.{pieces}
use Rattle.slot_pair.specs.Finding.{HasDiskCause}
use Rattle.slot_pair.specs.Saves.{save_calls}
use Rattle.map_model.specs.Requests.{Request}
use Rattle.data_area.specs.Causes.{HasSinkCause}
use Rattle.store_model.specs.declared.answers.Progress.{Progress}
use Rattle.store_model.specs.declared.answers.Progress.TheVariants as progress
use Rattle.store_model.specs.Connection.{FlushInHand, IsConnected, StoreValue, limits_of}
use Rattle.flush_run.specs.Calls.{piece_calls}
use Rattle.store_model.specs.Quiet.{added}
use Rattle.store_model.specs.States.{served}
use Rattle.store_model.specs.Halves.{IsHalfway, IsReadable}
use Rattle.ask_text.specs.declared.ends.End.{End}
use Rattle.ask_text.specs.declared.ends.End.TheVariants as ends
use Rattle.ask_session.specs.Serving.{IsServingFault, PutsText, is_disk_fault}
use Rattle.desk_model.specs.Answers.{Answer, answer_text}
use Rattle.desk_model.specs.Desks.{Desk, Flush, TakesIf, begins, end_lines, waits}
use Rattle.desk_core.specs.Images.{Checkpoint, LeavesEnd, LeavesFrom, RestsFrom, kept_of, settled_of}
use Rattle.desk_core.specs.Shows.{ShowsStore}

-- An event was answered: by the desk's definition, and the desk is shown after it, but where the disk failed;
-- the text of the answer was put, or a front of it where a device failed.
pub record PlaysOne (steps : Answer → Desk → Type 0) (shows : Desk → Type 0) (before now : SinkState)
    (result : Result (Unit {0}) End) : Type 0 where
  pub answer : Answer
  pub desk : Desk
  pub step : steps answer desk
  pub shown : is_disk_fault result ≡ false → shows desk
  pub puts : IsTrue before.tells → PutsText (answer_text answer) before.given now.given result

-- What holds of a store and the devices after any event: the store's objects may be read; it is broken only
-- where the disk failed, and has the same block where it didn't; and each fault has its cause.
pub record KeepsGoing (classes : ℕ) (old new : StoreValue) (before now : Devices)
    (result : Result (Unit {0}) End) : Type 0 where
  pub readable : IsReadable classes new now.disk
  pub broken : new.is_broken ≡ true → is_disk_fault result ≡ true
  pub block : is_disk_fault result ≡ false → new.in_use.block ≡ old.in_use.block
  pub frame : KeepsDisk before.disk now.disk
  pub only : IfErr result IsServingFault
  pub disk_cause : HasDiskCause ends.Disk before.disk.faults now.disk.faults result
  pub sink_cause : HasSinkCause ends.Sink before.sink now.sink result

-- The changing calls of an event are those of one call of the store at most: two, where a flush is begun or
-- a change made that needs none; those of a save of what stands, or of a step that settles it or fails; or
-- those of a step that moves an object, whose bytes the ledger gains.
abbrev pub CallsOnce : StoreValue → StoreValue → disk.State → disk.State → Type 0
CallsOnce old new before now = (now.turn ≤ before.turn + 2)
    ⊎ (now.turn ≤ before.turn + save_calls (fin.len old.now) + (piece_calls + 2))
    ⊎ ((size : ℕ) × (new.moved ≡ added old.moved size)
    × (now.turn ≤ before.turn + save_calls (fin.len old.now) + pieces 65536 size))

-- a store, and the session whose request its flush in hand is of
pub record Owned : Type 0 where
  pub store : StoreValue
  pub session : ℕ

abbrev pub owned : StoreValue → ℕ → Owned
owned store session = record { store = store; session = session }

-- a desk is shown by a store whose flush is of that session
abbrev pub ShowsOwned : Owned → List ℕ → Desk → Type 0
ShowsOwned s = ShowsStore s.store s.session

-- A request of a session was taken, which didn't have to wait: it began a flush, or was served and replied.
-- What a crash may leave meanwhile opens to the checkpoint that was settled before, or to that of the state
-- after it.
pub record TakesRequest (classes : ℕ) (session : ℕ) (r : Request) (old new : Owned) (before now : Devices)
    (result : Result (Unit {0}) End) : Type 0 where
  pub plays : IsTrue before.disk.tells → (d : Desk) (rest : List Request)
      → ShowsOwned old before.disk.file d → waits d.hand session r ≡ false
      → PlaysOne (TakesIf (begins (limits_of old.store) d.state r) (limits_of old.store) session r rest d)
      (ShowsOwned new now.disk.file) before.sink now.sink result
  pub images : IsTrue before.disk.tells → (d : Desk) → ShowsOwned old before.disk.file d
      → waits d.hand session r ≡ false → (k : Checkpoint) → RestsFrom classes old.store before.disk k
      → LeavesFrom classes new.store before.disk now.disk (settled_of k d)
      (kept_of (served (limits_of old.store) d.state r).state) result
  pub goes : KeepsGoing classes old.store new.store before now result
  pub of_is : (new.session ≡ old.session) ⊎ (new.session ≡ session)
  pub calls : CallsOnce old.store new.store before.disk now.disk

-- the desk once its flush in hand has settled, with a sequence that it may leave
abbrev pub SettlesTo : Flush → Desk → Desk → Type 0
SettlesTo f d d' = (sequence : ℕ) × (f.least ≤ sequence) × (sequence ≤ f.most)
    × (d' ≡ record d { state = record d.state { sequence = sequence }; hand = None })

-- the desk once an object was moved
abbrev pub MovesTo : Flush → Desk → Desk → Type 0
MovesTo f d d' = (left : ℕ) × (1 ≤ left) × (left < f.left)
    × (d' ≡ record d { hand = Some (record f { left = left }) })

abbrev pub GoesTo : Progress → Flush → Desk → Desk → Type 0
GoesTo progress.Moved f d d' = MovesTo f d d'
GoesTo progress.Settled f d d' = SettlesTo f d d'

-- a step of the flush in hand, by its answer
abbrev pub StepsTo : Result Progress End → StoreValue → ℕ → List ℕ → Flush → Desk → Type 0
StepsTo (Ok p) new session file f d = (d' : Desk) × GoesTo p f d d' × ShowsStore new session file d'
StepsTo (Err end) new session file f d = end ≡ ends.Disk

-- how many steps are left of a flush in hand, if there is one
abbrev pub left_of : Option FlushInHand → ℕ
left_of None = 0
left_of (Some h) = h.left

-- how a store and its disk belong together after a step
abbrev pub OverAfter : ℕ → StoreValue → disk.State → Result Progress End → Type 0
OverAfter classes s d (Ok progress.Moved) = IsHalfway classes s d
OverAfter classes s d (Ok progress.Settled) = IsConnected classes s d
OverAfter classes s d (Err end) = IsConnected classes s d

-- A step of the flush in hand: the desk goes on, or the disk failed.
pub record StepsFlush (classes : ℕ) (session : ℕ) (old new : StoreValue) (before now : disk.State)
    (result : Result Progress End) : Type 0 where
  pub steps : IsTrue before.tells → (d : Desk) (f : Flush) → d.hand ≡ Some f
      → ShowsStore old session before.file d → StepsTo result new session now.file f d
  pub images : IsTrue before.tells → (d : Desk) → ShowsStore old session before.file d
      → LeavesEnd classes old new before now d result
  pub over : OverAfter classes new now result
  pub fewer : result ≡ Ok progress.Moved → left_of new.in_hand < left_of old.in_hand
  pub calls : CallsOnce old new before now
  pub broken : new.is_broken ≡ is_disk_fault result
  pub block : is_disk_fault result ≡ false → new.in_use.block ≡ old.in_use.block
  pub frame : KeepsDisk before now
  pub only : IfErr result (λ end. end ≡ ends.Disk)
  pub cause : HasDiskCause ends.Disk before.faults now.faults result

-- the desk after its end: no flush is in hand
abbrev pub Finishes : Option Flush → Desk → Desk → Type 0
Finishes None d d' = d' ≡ d
Finishes (Some f) d d' = SettlesTo f d d'

-- The flush in hand was settled, or the disk failed.
pub record SettlesFlush (classes : ℕ) (session : ℕ) (old new : StoreValue) (before now : disk.State)
    (result : Result (Unit {0}) End) : Type 0 where
  pub settles : IsTrue before.tells → (d : Desk) (f : Flush) → d.hand ≡ Some f
      → ShowsStore old session before.file d
      → (d' : Desk) × SettlesTo f d d' × (is_disk_fault result ≡ false → ShowsStore new session now.file d')
  pub images : IsTrue before.tells → (d : Desk) → ShowsStore old session before.file d
      → LeavesEnd classes old new before now d result
  pub readable : IsReadable classes new now
  pub broken : new.is_broken ≡ is_disk_fault result
  pub block : is_disk_fault result ≡ false → new.in_use.block ≡ old.in_use.block
  pub frame : KeepsDisk before now
  pub only : IfErr result (λ end. end ≡ ends.Disk)
  pub cause : HasDiskCause ends.Disk before.faults now.faults result

-- A desk has finished: its flush in hand has settled, and the last lines were put, or a front of them where
-- a device failed.
pub record FinishesStore (d : Desk) (new : StoreValue) (session : ℕ) (file : List ℕ)
    (before now : SinkState) (result : Result (Unit {0}) End) : Type 0 where
  pub desk : Desk
  pub finished : Finishes d.hand d desk
  pub shown : is_disk_fault result ≡ false → ShowsStore new session file desk
  pub puts : IsTrue before.tells → PutsText (end_lines d) before.given now.given result
