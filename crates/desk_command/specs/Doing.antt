-- How a desk of an open store went: which events were answered, what was put, and what was left.
use Rattle.std.specs.Prelude.{◌≡◌, ◌≢◌, ◌⊎◌, ◌↔◌, ℕ, ◌≤◌, false, List, [], ◌∷◌, ◌++◌, length, flat_map, Result, Ok, Err, None, IsTrue}
use Rattle.std.specs.List.{AllByRecursion}
use Rattle.disk_face.specs.Counts.{counted}
use Rattle.disk_face.specs.Devices.{Devices}
use Rattle.disk_face.specs.Frames.{Unchanged}
use Rattle.disk_face.specs.Moments.{Leaves}
use Rattle.disk_face.specs.Streams.{SourceState}
use Rattle.disk_face.specs.Writes.{KeepsDisk}
use Rattle.size_class.specs.declared.TheConstants.{CLASSES}
use Rattle.store_model.specs.Connection.{RestsOnTable, StoreValue, base_of, limits_of, state_of}
use Rattle.store_model.specs.Halves.{IsReadable}
use Rattle.store_model.specs.States.{State}
use Rattle.store_model.specs.Stores.{IsStore}
use Rattle.ask_text.specs.declared.ends.End.{End}
use Rattle.ask_text.specs.declared.ends.End.TheVariants as ends
use Rattle.command_face.specs.Layers.{HasCausesAt}
use Rattle.command_face.specs.Outcomes.{status_at}
use Rattle.command_face.specs.declared.status.TheConstants.{DISK_FAILED, DONE}
use Rattle.command_face.specs.declared.stop.StopReason.{StopReason}
use Rattle.command_face.specs.declared.stop.StopReason.TheVariants as stop
use Rattle.desk_model.specs.Answers.{Answer, answer_text}
use Rattle.desk_model.specs.Desks.{Desk, Plays, new_desk}
use Rattle.desk_model.specs.Events.{BeginsNoEvent, Event, IsEvent, event_text}
use Rattle.desk_core.specs.Runs.{budget}
use Rattle.desk_core.specs.Shows.{ShowsStore}
use Rattle.desk_command.specs.Acts.{IsAct, IsBusy, IsFinishing, IsImageFrom, LastAct, OpensAsLeft, last_from, left_from, text_of}
use Rattle.desk_command.specs.Acts as act
use Rattle.served_file.specs.Ends.{end_of}

-- ---- how it ends

-- the text of an event stands in front, and it is the next; or nothing is left, and there is none
abbrev pub IsNext : List Event → List ℕ → Type 0
IsNext next more = ((next ≡ []) × (more ≡ []))
    ⊎ ((e : Event) × IsEvent e × (next ≡ e ∷ []) × (rest : List ℕ) × (more ≡ event_text e ++ rest))

-- what the input has next where a desk ended so, and the event that it was at
abbrev pub StopsAt : End → List Event → List ℕ → Type 0
StopsAt ends.End next more = (next ≡ []) × (more ≡ [])
StopsAt ends.Line next more = (next ≡ []) × (more ≢ []) × BeginsNoEvent more
StopsAt ends.Disk next more = IsNext next more
StopsAt ends.Sink next more = IsNext next more
StopsAt ends.Source next more = next ≡ []
StopsAt ends.Budget next more = next ≡ []

-- what it was at then
abbrev pub ActsAt : End → LastAct → Type 0
ActsAt ends.End a = IsFinishing a
ActsAt ends.Line a = a ≡ act.nothing
ActsAt ends.Disk a = IsBusy a
ActsAt ends.Sink a = IsBusy a
ActsAt ends.Source a = a ≡ act.nothing
ActsAt ends.Budget a = a ≡ act.nothing

-- ---- what is put

-- A front of a text was put, by the status: all of it where all is done, and not all where the disk failed.
pub record IsPartial (status : ℕ) (text partial : List ℕ) : Type 0 where
  pub rest : List ℕ
  pub front : text ≡ partial ++ rest
  pub whole : status ≡ DONE → rest ≡ []
  pub cut : status ≡ DISK_FAILED → rest ≡ [] → partial ≡ []

-- The texts of answers were put, and then a front of another text.
pub record HasPut (status : ℕ) (answers : List Answer) (text before now : List ℕ) : Type 0 where
  pub partial : List ℕ
  pub put : now ≡ before ++ flat_map answer_text answers ++ partial
  pub part : IsPartial status text partial

-- ---- a desk of an open store

-- the state of a store over its file
abbrev pub first_state : StoreValue → Devices → State
first_state s before = state_of s before.disk.file

-- The events were answered by the desk's definition, from the state of the store over its file. What a crash
-- may leave meanwhile opens to the checkpoint of the store, or to one of which an answer told, where the disk
-- rested on the store's table. Where the disk didn't fail the store shows the desk as it was left; what a
-- crash may leave then opens to the checkpoint that the desk has settled, or to the one that its flush in
-- hand will settle; and with no flush in hand the disk rests on the table of the checkpoint.
pub record DeskWent (s new : StoreValue) (events next : List Event) (before now : Devices) (why : End)
    : Type 0 where
  pub answers : List Answer
  pub desks : List Desk
  pub plays : Plays (limits_of s) (new_desk (first_state s before)) events answers desks
  pub was : LastAct
  pub at : IsAct (limits_of s) (last_from (first_state s before) desks) next was
  pub by : ActsAt why was
  pub puts : IsTrue before.sink.tells → HasPut (status_at (end_of why 0)) answers
      (text_of (last_from (first_state s before) desks) was) before.sink.given now.sink.given
  pub left : RestsOnTable (base_of s) s.kept before.disk → Leaves before.disk now.disk
      (IsImageFrom (first_state s before) answers desks was)
  pub shown : why ≢ ends.Disk → (session : ℕ) × ShowsStore new session now.disk.file
      (left_from (first_state s before) desks was)
  pub opens : why ≢ ends.Disk → RestsOnTable (base_of s) s.kept before.disk → (image : List ℕ)
      → now.disk.may_leave image → OpensAsLeft (first_state s before) desks was image
  pub rests : why ≢ ends.Disk → RestsOnTable (base_of s) s.kept before.disk → new.in_hand ≡ None
      → RestsOnTable (base_of new) new.kept now.disk

-- A desk of the store ran to its end. So many events were answered, whose texts stood in front of the input.
pub record HasDesked (from rest : SourceState) (s : StoreValue) (before now : Devices)
    (end : Result (Unit {0}) StopReason) : Type 0 where
  pub new : StoreValue
  pub why : End
  pub n : ℕ
  pub events : List Event
  pub next : List Event
  pub more : List ℕ
  pub ended : end ≡ end_of why n
  pub count : length events ≡ n
  pub few : n ≤ budget
  pub limit : (why ≡ ends.Budget) ↔ (n ≡ budget)
  pub each : AllByRecursion IsEvent events
  pub whole : IsTrue from.tells → from.left ≡ flat_map event_text events ++ more
  pub stops : IsTrue from.tells → StopsAt why next more
  pub went : IsTrue before.disk.tells → DeskWent s new events next before now why
  pub readable : IsReadable CLASSES new now.disk
  pub sound : new.is_broken ≡ false → new.in_hand ≡ None → IsStore CLASSES new
  pub unbroken : why ≢ ends.Disk → new.is_broken ≡ false
  pub block : why ≢ ends.Disk → new.in_use.block ≡ s.in_use.block
  pub frame : KeepsDisk before.disk now.disk
  pub causes : HasCausesAt before.disk now.disk before.sink now.sink end

-- There was no memory for a desk: nothing was done, read or put.
pub record HasNoMemory (from rest : SourceState) (before now : Devices) (end : Result (Unit {0}) StopReason)
    : Type 0 where
  pub frame : Unchanged before.disk now.disk
  pub calm : now.disk.faults ≡ before.disk.faults
  pub ended : end ≡ Err stop.NoMemory
  pub nothing : now.sink ≡ before.sink
  pub unread : rest ≡ from

-- what is done with an open store, by what an input has left before and after
abbrev pub IsDesking : SourceState → SourceState → StoreValue → Devices → Devices
    → Result (Unit {0}) StopReason → Type 0
IsDesking from rest s before now end =
    HasNoMemory from rest before now end ⊎ HasDesked from rest s before now end
