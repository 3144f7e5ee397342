-- What `desk` does to a file that opens: what is answered to the events of its input, how it ends, and what a
-- crash leaves meanwhile.
use Rattle.std.specs.Prelude.{◌≡◌, ◌≢◌, ◌⊎◌, ◌↔◌, ℕ, ◌+◌, ◌<◌, ◌≤◌, true, List, [], ◌++◌, length, None, Result, Err, IsTrue}
use Rattle.disk_face.specs.Counts.{IsCalm, Rose, last}
use Rattle.disk_face.specs.Devices.{Devices}
use Rattle.disk_face.specs.Moments.{LeftOnly}
use Rattle.disk_face.specs.States as disk
use Rattle.disk_face.specs.Streams.{SinkState}
use Rattle.size_class.specs.declared.TheConstants.{CLASSES, SIZE_MAX}
use Rattle.slot_codec.specs.Choice as choice
use Rattle.map_model.specs.Maps.{Map}
use Rattle.segment_layout.specs.Books.{Book}
use Rattle.table_rules.specs.Opening.{OpensBy}
use Rattle.store_model.specs.Opened.{LeavesRoom, RestsOnFound}
use Rattle.store_model.specs.States.{Limits, State}
use Rattle.command_face.specs.Outcomes.{PutsLast, line_at, status_at}
use Rattle.command_face.specs.declared.status.TheConstants.{DISK_FAILED, DONE, FAULTY_REQUEST, NO_FILE, NO_MEMORY, SINK_FAILED, TOO_MANY_REQUESTS}
use Rattle.command_face.specs.declared.stop.StopReason.{StopReason}
use Rattle.command_face.specs.declared.stop.StopReason.TheVariants as stop
use Rattle.served_file.specs.Served.{Found, IsNextStart, Starts, found_by, limits_with, most_left}
use Rattle.desk_model.specs.Answers.{Answer}
use Rattle.desk_model.specs.Desks.{Desk, Plays, last_desk, new_desk, queue_of}
use Rattle.desk_model.specs.Events.{Event, IsScript, sessions}
use Rattle.desk_model.specs.Orders.{RunsAsTaken, owed, queued_in, replies_of, requests_of, taken_in, taken_of, told_in}
use Rattle.desk_core.specs.Runs.{budget}
use Rattle.desk_command.specs.Acts.{IsAct, IsBusy, IsFinishing, IsImageFrom, LastAct, OpensAsLeft, last_from, left_from, text_of}
use Rattle.desk_command.specs.Acts as act
use Rattle.desk_command.specs.Desking.{is_desking}
use Rattle.desk_command.specs.Doing.{HasPut}

-- ---- events

-- The first events of a script were answered one after another: those and the others, the answers, and the
-- desk after each.
pub record Played (limits : Limits) (d : Desk) (events : List Event) (n : ℕ) : Type 0 where
  pub answered : List Event
  pub others : List Event
  pub split : events ≡ answered ++ others
  pub count : length answered ≡ n
  pub answers : List Answer
  pub desks : List Desk
  pub plays : Plays limits d answered answers desks

-- The requests of all sessions, in the order in which they are taken, are one run of the store. Those of one
-- session are taken in the order in which it says them, as far as they are queued, and replied in that order;
-- the reply that a flush in hand owes comes when it has settled.
pub record IsInOrder (limits : Limits) (d : Desk) (es : List Event) (answers : List Answer)
    (ds : List Desk) : Type 0 where
  pub ran : RunsAsTaken limits d es ds
  pub taken : (s : ℕ) → s < sessions → queue_of d s ++ queued_in s d es ds
      ≡ requests_of (taken_of s (taken_in limits d es ds)) ++ queue_of (last_desk d ds) s
  pub told : (s : ℕ) → owed s d.hand ++ replies_of (taken_of s (taken_in limits d es ds))
      ≡ told_in s answers ++ owed s (last_desk d ds).hand

-- ---- how far it came

-- How far the call came, by its status: after n events were answered the script has these others, and `end`
-- behind its last; and the call was at one of them, at the end of the input, or at none.
pub record HowFar (status n : ℕ) (others : List Event) (end : List ℕ) (was : LastAct) : Type 0 where
  pub known : is_desking status ≡ true
  pub done : status ≡ DONE → IsFinishing was
  pub whole : IsFinishing was → (others ≡ []) × (end ≡ [])
  pub line : status ≡ FAULTY_REQUEST → (others ≡ []) × (end ≢ [])
  pub begun : (status ≡ NO_FILE) ⊎ (status ≡ NO_MEMORY) → n ≡ 0
  pub disk : status ≡ DISK_FAILED → IsBusy was ⊎ (n ≡ 0)
  pub sink : status ≡ SINK_FAILED → IsBusy was
  pub idle : status ≢ DONE → status ≢ DISK_FAILED → status ≢ SINK_FAILED → was ≡ act.nothing
  pub few : n ≤ budget
  pub limit : (status ≡ TOO_MANY_REQUESTS) ↔ (n ≡ budget)

-- a faulty event has the number after those that were answered
abbrev pub NumbersLine : ℕ → Result (Unit {0}) StopReason → Type 0
NumbersLine n (Err (stop.Line number)) = number ≡ n + 1
NumbersLine n _ = Unit {0}

-- What was put: the texts of all answers, a front of what comes next, and the line of the end.
pub record HasAnswered (answers : List Answer) (text : List ℕ) (status n : ℕ)
    (old new : SinkState) : Type 0 where
  pub between : List ℕ
  pub end : Result (Unit {0}) StopReason
  pub put : HasPut status answers text old.given between
  pub same_status : status ≡ status_at end
  pub numbered : NumbersLine n end
  pub line : PutsLast between new.given (line_at end) (Rose old.faults new.faults)

-- ---- crashes

-- What a crash leaves of a desk that was at a state first and had these answers and desks. At any moment it
-- opens to the map and the book of the start, or to those after a request that was answered `ok kept` or
-- began a flush, also one that was being served as the call ended. Where the disk didn't fail, what a crash
-- leaves now opens to the last checkpoint that is settled, or to the one that a flush in hand will settle.
pub record IsCrashSafe (start : State) (answers : List Answer) (desks : List Desk) (was : LastAct)
    (status : ℕ) (old new : disk.State) : Type 0 where
  pub crash : LeftOnly new old.turn (IsImageFrom start answers desks was)
  pub safe : status ≢ DISK_FAILED → (image : List ℕ) → new.may_leave image
      → OpensAsLeft start desks was image

-- ---- the whole

-- What `desk` does to a file that has a superblock, and opens by a table to a map and a book, and whose input
-- is these events and then `end`, which begins with none. The events are answered by the desk's definition,
-- one after another, from the state that was found: no answer is free but how many objects a flush moves
-- within its bound. The sequence of the desk as it was left is no greater than that of a session may be. What
-- is said of images is said of a disk that rested on that table, below the last turn,
-- and of a moving table whose sequence leaves room for the saves of its flush. Where no call of the disk
-- failed and no flush is in hand the next call may begin.
pub record DeskHolds (found : Found) (events : List Event) (end : List ℕ) (status : ℕ)
    (old new : Devices) : Type 0 where
  pub start : State
  pub starts : Starts found.table found.m found.b start
  pub n : ℕ
  pub played : Played (limits_with found.block) (new_desk start) events n
  pub was : LastAct
  pub at : IsAct (limits_with found.block) (last_from start played.desks) played.others was
  pub far : HowFar status n played.others end was
  pub order : IsInOrder (limits_with found.block) (new_desk start) played.answered played.answers
      played.desks
  pub output : IsTrue old.sink.tells → HasAnswered played.answers
      (text_of (last_from start played.desks) was) status n old.sink new.sink
  pub reach : (left_from start played.desks was).state.sequence ≤ most_left found.block.k found.table
  pub crash : LeavesRoom found.table → RestsOnFound found.table old.disk → new.disk.turn < last
      → IsCrashSafe start played.answers played.desks was status old.disk new.disk
  pub next_start : IsCalm old.disk.faults new.disk.faults
      → (left_from start played.desks was).hand ≡ None → IsNextStart found.table
      (left_from start played.desks was).state
      (left_from start played.desks was).state.sequence old.disk new.disk

-- So it is of every file that opens, and of every script: by what the input has left.
abbrev pub DeskPromise : List ℕ → ℕ → Devices → Devices → Type 0
DeskPromise text status old new = (t : choice.SlotTable) (m : Map) (b : Book) (events : List Event)
    (end : List ℕ) → OpensBy CLASSES SIZE_MAX t old.disk.file m b → IsScript text events end
    → DeskHolds (found_by t m b) events end status old new
