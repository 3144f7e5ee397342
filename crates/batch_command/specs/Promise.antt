-- What `batch` does to a file that opens: how it ends, what it leaves, and what a crash leaves meanwhile.
use Rattle.std.specs.Prelude.{◌≡◌, ◌≢◌, ◌⊎◌, ℕ, ◌<◌, ◌≤◌, Bool, true, false, List, [], ◌++◌, Option, Some, None, Result, Ok, Err, IsTrue}
use Rattle.std.specs.FinMap as fin
use Rattle.disk_face.specs.Counts.{IsCalm, last}
use Rattle.disk_face.specs.Devices.{Devices}
use Rattle.disk_face.specs.Moments.{LeftOnly}
use Rattle.disk_face.specs.States as disk
use Rattle.size_class.specs.declared.TheConstants.{CLASSES, SIZE_MAX}
use Rattle.slot_codec.specs.Choice as choice
use Rattle.slot_codec.specs.Spelling.{cap}
use Rattle.map_model.specs.Maps.{Map}
use Rattle.map_model.specs.Requests.{Change, Reply, Request}
use Rattle.segment_layout.specs.Books.{Book, is_damaged, version_of}
use Rattle.table_rules.specs.Opening.{Opens, OpensBy}
use Rattle.table_rules.specs.Sequences.{HasSequenceUpTo}
use Rattle.store_model.specs.Opened.{LeavesRoom, RestsOnFound}
use Rattle.store_model.specs.States.{Limits, Run, State, object_in}
use Rattle.command_face.specs.Outcomes.{Ends}
use Rattle.command_face.specs.declared.status.TheConstants.{DISK_FAILED}
use Rattle.command_face.specs.declared.stop.StopReason.{StopReason}
use Rattle.command_face.specs.declared.stop.StopReason.TheVariants as stop
use Rattle.served_file.specs.Served.{Found, IsNextStart, OpensTo, Starts, found_by, limits_with, most_left}
use Rattle.batch_model.specs.Batches.{IsBatch, IsNoBatch, StopsAt, applied, batch_name}
use Rattle.batch_model.specs.Fits.{misfit}
use Rattle.batch_model.specs.Views.{IsView, unbatched}
use Rattle.batch_core.specs.Answers.{requests_of}
use Rattle.batch_core.specs.Doing.{last_requests, requests_for, worn_from}
use Rattle.batch_command.specs.Batching.{has_applied}
use Rattle.batch_command.specs.Doing.{line_for}
use Rattle.batch_command.specs.Reading.{ComesToNone}

-- ---- batches

-- A text is a batch of these changes. The first of them that doesn't fit a map has this number, if one
-- doesn't: there is room for so many names, one of them the batch's own.
pub record IsFor (again : Bool) (room : ℕ) (m : Map) (text : List ℕ) (n : Option ℕ) : Type 0 where
  pub changes : List Change
  pub batch : IsBatch text changes
  pub fits : misfit again room m changes ≡ n

-- how many names may be live in a state
abbrev pub room_in : Limits → State → ℕ
room_in limits s = cap limits.names (version_of s.book)

-- the text that a state keeps as a batch
abbrev pub text_in : State → List ℕ
text_in s = object_in s.map batch_name

-- a state keeps a batch, which has the digest that it is to have
abbrev pub KeepsSound : State → Type 0
KeepsSound s = IsTrue (fin.contains_key s.map batch_name) × (is_damaged s.book s.map batch_name ≡ false)

-- what a state keeps as a batch is one, and the first of its changes that doesn't fit beside it is this
abbrev pub KeepsFor : Limits → State → Option ℕ → Type 0
KeepsFor limits s n = KeepsSound s × IsFor true (room_in limits s) (unbatched s.map) (text_in s) n

-- ---- what is done

-- All of a batch was done, from a sequence that leaves room for it: its requests were made one after another,
-- what stands is the map after its changes, and that is kept.
pub record DoesBatch (limits : Limits) (again : Bool) (m : Map) (text : List ℕ)
    (requests : List Change → List Request) (s t : State) : Type 0 where
  pub fit : IsFor again (room_in limits s) m text None
  pub early : s.sequence < worn_from
  pub replies : List Reply
  pub ran : Run limits s (requests fit.changes) replies t
  pub same_map : t.map ≡ applied fit.changes m
  pub same_kept : t.kept ≡ t.map
  pub same_book : t.kept_book ≡ t.book
  pub gone : fin.get t.map batch_name ≡ None

-- the requests of a batch that is finished
abbrev pub requests_again : List Change → List Request
requests_again changes = requests_for changes ++ last_requests

-- the batch that a state keeps was finished, if it keeps one, and what stands is its view
abbrev pub FinishedTo : Limits → State → State → Type 0
FinishedTo limits s t = IsView s.map t.map × (((fin.get s.map batch_name ≡ None) × (t ≡ s))
    ⊎ (KeepsSound s × DoesBatch limits true (unbatched s.map) (text_in s) requests_again s t))

-- a text was applied
abbrev pub AppliedTo : Limits → List ℕ → State → State → Type 0
AppliedTo limits text s t = ((text ≡ []) × (t ≡ s))
    ⊎ ((text ≢ []) × DoesBatch limits false s.map text (requests_of text) s t)

-- ---- ends

-- a batch was finished, if one was kept, and the text applied, and the line is that
abbrev pub IsWhole : Limits → State → List ℕ → List ℕ → Type 0
IsWhole limits s text bytes = (mid t : State) × FinishedTo limits s mid × AppliedTo limits text mid t
    × (((text ≡ []) × (bytes ≡ line_for false)) ⊎ ((text ≢ []) × (bytes ≡ line_for true)))

-- How a call over a state ends whose input has a text. A batch that is kept is judged first: it is damaged,
-- no batch, unfit, or comes too late. Else it is finished, and then the text is judged by what stands. Each
-- case excludes the others, but that it is left open how far a finish raises the sequence, and that a device
-- may fail.
abbrev pub IsBatchEnd : Limits → State → List ℕ → Result (List ℕ) StopReason → Type 0
IsBatchEnd limits s text (Ok bytes) = IsWhole limits s text bytes
IsBatchEnd limits s text (Err stop.Damaged) = IsTrue (fin.contains_key s.map batch_name)
    × (is_damaged s.book s.map batch_name ≡ true)
IsBatchEnd limits s text (Err stop.NoBatch) = KeepsSound s × IsNoBatch (text_in s)
IsBatchEnd limits s text (Err (stop.Unfit n)) = KeepsFor limits s (Some n)
    ⊎ ((mid : State) × FinishedTo limits s mid × IsFor false (room_in limits mid) mid.map text (Some n))
IsBatchEnd limits s text (Err stop.Worn) = (KeepsFor limits s None × (worn_from ≤ s.sequence))
    ⊎ ((mid : State) × FinishedTo limits s mid × (text ≢ [])
    × IsFor false (room_in limits mid) mid.map text None × (worn_from ≤ mid.sequence))
IsBatchEnd limits s text (Err (stop.Line n)) = ((mid : State) × FinishedTo limits s mid) × StopsAt text n
IsBatchEnd limits s text (Err stop.Source) = (mid : State) × FinishedTo limits s mid
IsBatchEnd limits s text (Err _) = ⊥

-- ---- images

-- what a map keeps as a batch, if it keeps one, is one that fits beside it
abbrev pub GoesOn : ℕ → Map → Type 0
GoesOn room m = (text : List ℕ) → fin.get m batch_name ≡ Some text
    → IsFor true room (unbatched m) text None

-- An image opens to a map that is viewed as this, and a batch that it keeps can be finished.
pub record OpensToView (names : ℕ) (view : Map) (image : List ℕ) : Type 0 where
  pub m : Map
  pub b : Book
  pub opens : Opens CLASSES SIZE_MAX image m b
  pub viewed : IsView m view
  pub goes_on : GoesOn (cap names (version_of b)) m

-- It opens to one that is viewed as a map is.
pub record OpensAlike (names : ℕ) (m : Map) (image : List ℕ) : Type 0 where
  pub view : Map
  pub viewed : IsView m view
  pub opens : OpensToView names view image

-- It opens to one that is viewed as a map is with the batch of a text, which fits it.
pub record OpensToBatch (names room : ℕ) (m : Map) (text image : List ℕ) : Type 0 where
  pub view : Map
  pub viewed : IsView m view
  pub fit : IsFor false room view text None
  pub opens : OpensToView names (applied fit.changes view) image

-- an image opens to the start, or to a map that is viewed as the start is
abbrev pub IsViewedAs : ℕ → State → List ℕ → Type 0
IsViewedAs names start image = OpensTo start image ⊎ OpensAlike names start.map image

-- an image opens to the start, to a map that is viewed as the start is, or to one that is viewed as that with
-- the batch of the text
abbrev pub IsBatchImage : Limits → State → List ℕ → List ℕ → Type 0
IsBatchImage limits start text image = OpensTo start image ⊎ OpensAlike limits.names start.map image
    ⊎ OpensToBatch limits.names (room_in limits start) start.map text image

-- The content is so, and so is each image left since the call began, where the disk rested on the table that
-- was found and below the last turn.
pub record LeavesOnly (P : List ℕ → Type 0) (found : choice.SlotTable) (old new : disk.State) : Type 0 where
  pub content : P new.file
  pub left : RestsOnFound found old → new.turn < last → LeftOnly new old.turn P

-- ---- the whole

-- All was done: the file opens to the view of the start with the changes of the text, which keeps no batch,
-- and so does each image that a crash leaves now, where the disk rested.
pub record HasBatched (found : Found) (start : State) (text : List ℕ) (old new : Devices) : Type 0 where
  pub mid : State
  pub left : State
  pub finished : FinishedTo (limits_with found.block) start mid
  pub applied : AppliedTo (limits_with found.block) text mid left
  pub gone : fin.get left.map batch_name ≡ None
  pub opens : OpensTo left new.disk.file
  pub safe : RestsOnFound found.table old.disk → (image : List ℕ) → new.disk.may_leave image
      → OpensTo left image

-- the state that a call leaves in which no call of the disk failed, by whether all was done
abbrev pub IsLeftBy : Bool → Limits → State → List ℕ → State → Type 0
IsLeftBy true limits start text t = (mid : State) × FinishedTo limits start mid
    × AppliedTo limits text mid t
IsLeftBy false limits start text t = (t ≡ start) ⊎ FinishedTo limits start t

-- The next call may begin at what is left.
pub record LeavesNext (found : Found) (start : State) (text : List ℕ) (status : ℕ) (old new : Devices)
    : Type 0 where
  pub left : State
  pub by : IsLeftBy (has_applied status) (limits_with found.block) start text left
  pub low : left.sequence ≤ most_left found.block.k found.table
  pub next : IsNextStart found.table left left.sequence old.disk new.disk

-- What `batch` does to a file that has a superblock, and opens by a table to a map and a book, by the text
-- that its input has left. It ends by the one answer that there is. The content opens to a map that is viewed
-- as the start, or as that with the batch of the text, and so does, at any moment, what a crash leaves, where
-- the disk rested on that table, below the last turn and with room for the saves of an opening; to the start
-- alone where the call didn't come to its input; and to a map that is viewed as the start where the text
-- wasn't applied and the disk didn't fail. Where no call of the disk failed the next call may begin.
pub record BatchHolds (found : Found) (text : List ℕ) (status : ℕ) (old new : Devices) : Type 0 where
  pub start : State
  pub starts : Starts found.table found.m found.b start
  pub ends : Ends (IsBatchEnd (limits_with found.block) start text) status old.sink new.sink
  pub done : IsTrue (has_applied status) → HasBatched found start text old new
  pub content : LeavesRoom found.table
      → IsBatchImage (limits_with found.block) start text new.disk.file
  pub crash : LeavesRoom found.table → RestsOnFound found.table old.disk → new.disk.turn < last
      → LeftOnly new.disk old.disk.turn (IsBatchImage (limits_with found.block) start text)
  pub unbegun : ComesToNone status → LeavesRoom found.table
      → LeavesOnly (OpensTo start) found.table old.disk new.disk
  pub unapplied : has_applied status ≡ false → status ≢ DISK_FAILED → LeavesRoom found.table
      → LeavesOnly (IsViewedAs found.block.names start) found.table old.disk new.disk
  pub numbered : LeavesRoom found.table → RestsOnFound found.table old.disk → new.disk.turn < last
      → LeftOnly new.disk old.disk.turn (HasSequenceUpTo (most_left found.block.k found.table))
  pub next_start : IsCalm old.disk.faults new.disk.faults → LeavesNext found start text status old new

-- So it is of every file that opens, by the text that the input has left.
abbrev pub BatchPromise : List ℕ → ℕ → Devices → Devices → Type 0
BatchPromise text status old new = (t : choice.SlotTable) (m : Map) (b : Book)
    → OpensBy CLASSES SIZE_MAX t old.disk.file m b
    → BatchHolds (found_by t m b) text status old new
