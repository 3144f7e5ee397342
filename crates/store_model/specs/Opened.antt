-- What opening finds in a file, and what it leaves.
use Rattle.std.specs.Prelude.{◌≡◌, ◌⊎◌, ℕ, ◌+◌, ◌-◌, ◌*◌, ◌^◌, ◌<◌, ◌≤◌, nat_lt, false, if◌then◌else◌, None, List, length, slice_index, slice_index_or, IsTrue, OnOk, IfOk, IfErr, Result}
use Rattle.byte_ranges.specs.Ranges.{SameBelow, SameWithin, resized}
use Rattle.disk_face.specs.States as disk
use Rattle.disk_face.specs.Counts.{counted}
use Rattle.disk_face.specs.Frames.{Asks, Unchanged, call_weight}
use Rattle.disk_face.specs.Moments.{Leaves, Only, ResizedImage}
use Rattle.disk_face.specs.Writes.{KeepsDisk}
use Rattle.size_class.specs.Classes.{zero_row}
use Rattle.size_class.specs.declared.TheConstants.{SIZE_MAX}
use Rattle.slot_codec.specs.Choice as choice
use Rattle.slot_codec.specs.Spelling.{head_len}
use Rattle.slot_codec.specs.declared.codec.Kind.{Kind}
use Rattle.slot_codec.specs.declared.codec.Kind.TheVariants as kind
use Rattle.map_model.specs.Maps.{Map}
use Rattle.segment_layout.specs.Books.{Book, book_end, volumes}
use Rattle.table_rules.specs.Opening.{Opens, OpensBy}
use Rattle.table_rules.specs.Sequences.{HasSequenceUpTo}
use Rattle.table_rules.specs.Tables.{no_record}
use Rattle.flush_run.specs.Calls.{CallsSoFar, piece_calls}
use Rattle.reopen.specs.Refusals.{RefusesToOpen}
use Rattle.reopen.specs.declared.fault.OpenFault.{OpenFault}
use Rattle.reopen.specs.declared.fault.OpenFault.TheVariants as fault
use Rattle.slot_pair.specs.Finding.{HasDiskCause}
use Rattle.slot_pair.specs.declared.find.SlotFault.TheVariants as slot
use Rattle.store_model.specs.Connection.{IsOver, StoreValue, RestsOnTable, base_of, state_of}
use Rattle.store_model.specs.Stores.{IsStore}
use Rattle.store_model.specs.States.{State}

-- ---- what is found

-- where the data part of a file with a table begins
abbrev pub found_base : choice.SlotTable → ℕ
found_base t = head_len t.chosen.block.names

-- an image has the content's length, and its bytes below the data part and on the objects of a table
pub record SameOnFound (t : choice.SlotTable) (file image : List ℕ) : Type 0 where
  pub same_length : length image ≡ length file
  pub below : SameBelow (found_base t) file image
  pub objects : (i : ℕ) → i < length t.records
      → SameWithin (found_base t + (slice_index_or t.records i no_record).place)
      (found_base t + (slice_index_or t.records i no_record).place
      + (slice_index_or t.records i no_record).size) file image

-- the disk rests on a table that its content has: each image that a crash may leave is so
abbrev pub RestsOnFound : choice.SlotTable → disk.State → Type 0
RestsOnFound t d = (image : List ℕ) → d.may_leave image → SameOnFound t d.file image

-- A sequence leaves room for the saves of an opening, so that what they save opens. The opening of a settled
-- table makes none.
abbrev pub RoomOf : Kind → ℕ → Type 0
RoomOf kind.Settled sequence = Unit {0}
RoomOf kind.Moving sequence = sequence + 2 ^ 19 ≤ 2 ^ 62

abbrev pub LeavesRoom : choice.SlotTable → Type 0
LeavesRoom t = RoomOf t.chosen.header.kind t.chosen.header.sequence

-- ---- what is left

-- the greatest sequence that an opening leaves: the one found, or of a moving table fewer than 2^18 more
abbrev pub most_by : Kind → ℕ → ℕ
most_by kind.Settled found = found
most_by kind.Moving found = found + (2 ^ 18 - 1)

abbrev pub most_found : choice.SlotTable → ℕ
most_found t = most_by t.chosen.header.kind t.chosen.header.sequence

-- an image opens to what was found by a table, with at most such a sequence, and is no longer than the
-- file was
pub record IsFoundImage (classes : ℕ) (t : choice.SlotTable) (m : Map) (b : Book) (longest : ℕ)
    (image : List ℕ) : Type 0 where
  pub opens : Opens classes SIZE_MAX image m b
  pub sequence : HasSequenceUpTo (most_found t) image
  pub no_longer : length image ≤ longest

-- the map and the book of a state are these, and so are those of its checkpoint
abbrev pub state_at : Map → Book → ℕ → State
state_at m b sequence = record { map = m; kept = m; book = b; kept_book = b; sequence = sequence }

-- the sequence of a store whose table was found with a sequence
abbrev pub ContinuesFrom : Kind → ℕ → ℕ → Type 0
ContinuesFrom kind.Settled found new = new ≡ found
ContinuesFrom kind.Moving found new = (found + 1 ≤ new) × (new < found + 2 ^ 18)

-- The file opened by its table to a map and a book, which are those of the store over the file now, and of
-- its checkpoint. The superblock is that of the table. The sequence is the one found, or rose by less than
-- 2^18 where the table was a moving one.
pub record IsOpened (classes : ℕ) (file now : List ℕ) (s : StoreValue) : Type 0 where
  pub table : choice.SlotTable
  pub m : Map
  pub b : Book
  pub found : OpensBy classes SIZE_MAX table file m b
  pub block : s.in_use.block ≡ table.chosen.block
  pub state : state_of s now ≡ state_at m b s.in_use.sequence
  pub continues : ContinuesFrom table.chosen.header.kind table.chosen.header.sequence s.in_use.sequence

-- A store as it is opened: it isn't broken, nothing was moved or asked for yet, and no flush is in hand.
pub record IsFresh (classes : ℕ) (s : StoreValue) : Type 0 where
  pub whole : s.is_broken ≡ false
  pub store : IsStore classes s
  pub same_now : s.kept ≡ s.now
  pub same_book : s.kept_book ≡ s.book
  pub moved : s.moved ≡ zero_row
  pub asked : s.asked ≡ zero_row
  pub idle : s.in_hand ≡ None

-- ---- the calls

-- how many changing calls have ended once a file was cut to a length: two more where it was longer
abbrev pub turn_after_cut : ℕ → List ℕ → ℕ → ℕ
turn_after_cut len file turn = if nat_lt len (length file) then counted turn 2 else turn

-- The calls of a flush that went on: those of the bytes that it moved, of each class at most twice those of
-- the map, and those of its saves, each of as many records as there are names: at most one before each
-- move, and each name's object is moved twice at most, and one more.
pub record MovesOn (m : Map) (names first now saves : ℕ) : Type 0 where
  pub moved : List ℕ
  pub few : (c : ℕ) → slice_index moved c ≤ 2 * slice_index (volumes m) c
  pub few_saves : saves ≤ 2 * names + 1
  pub calls : CallsSoFar first now zero_row moved 2 saves names

-- The changing calls of an opening, by the kind of the table and by how many had ended before and have now.
-- Of a settled table there are none where its file ends with its layout, and two where it is longer.
abbrev pub OpenCallsOf : Kind → choice.SlotTable → Map → Book → List ℕ → ℕ → ℕ → StoreValue → Type 0
OpenCallsOf kind.Settled t m b file first now s = now
    ≡ turn_after_cut (found_base t + book_end t.chosen.block.k b) file first
OpenCallsOf kind.Moving t m b file first now s = MovesOn m t.chosen.header.count first now
    (s.in_use.sequence - t.chosen.header.sequence)

-- So many calls an opening makes at most, whether it fails or not: of a settled table two, and of a
-- moving one those of a flush that goes on, of one move more, and of one save that failed.
pub record MovesAtMost (m : Map) (names first now : ℕ) : Type 0 where
  pub moved : List ℕ
  pub saves : ℕ
  pub few : (c : ℕ) → slice_index moved c ≤ 2 * slice_index (volumes m) c
  pub few_saves : saves ≤ 2 * names + 1
  pub calls : CallsSoFar first now zero_row moved (piece_calls + 2) (saves + 1) names

abbrev pub MostCallsOf : Kind → choice.SlotTable → Map → ℕ → ℕ → Type 0
MostCallsOf kind.Settled t m first now = now ≤ first + 2
MostCallsOf kind.Moving t m first now = MovesAtMost m t.chosen.header.count first now

-- a settled file that isn't longer than its layout is left alone
abbrev pub LeavesAlone : choice.SlotTable → Book → disk.State → disk.State → Type 0
LeavesAlone t b before now = t.chosen.header.kind ≡ kind.Settled
    → length before.file ≤ found_base t + book_end t.chosen.block.k b → Unchanged before now

abbrev pub HasOpenCalls : choice.SlotTable → Map → Book → List ℕ → ℕ → ℕ → StoreValue → Type 0
HasOpenCalls t m b file first now s = OpenCallsOf t.chosen.header.kind t m b file first now s

-- ---- an opening

-- An opening of a settled table asks for a cut and a sync at most, and for no greater length than there is.
abbrev pub AsksToCut : choice.SlotTable → disk.State → disk.State → Type 0
AsksToCut t before now = t.chosen.header.kind ≡ kind.Settled
    → Asks (2 * call_weight) (length before.file) before now

-- What opening does to a disk whose content opens by a table to a map and a book, whether it fails or not.
-- The content opens to them still, and where the disk rested on the table so does all that a crash may leave
-- meanwhile; then the disk rests on the table of the store. How many calls it makes is bounded, also where it
-- fails.
pub record OpensFound (classes : ℕ) (t : choice.SlotTable) (m : Map) (b : Book) (before now : disk.State)
    (result : Result StoreValue OpenFault) : Type 0 where
  pub content : LeavesRoom t → IsFoundImage classes t m b (length before.file) now.file
  pub left : LeavesRoom t → RestsOnFound t before → Leaves before now
      (IsFoundImage classes t m b (length before.file))
  pub rests : RestsOnFound t before → IfOk result (λ s. RestsOnTable (base_of s) s.kept now)
  pub calls : IfOk result (HasOpenCalls t m b before.file before.turn now.turn)
  pub most : MostCallsOf t.chosen.header.kind t m before.turn now.turn
  pub alone : LeavesAlone t b before now
  pub asks : AsksToCut t before now

-- nothing changed where the refusal isn't that the disk failed
abbrev pub RefusesUnchanged : disk.State → disk.State → OpenFault → Type 0
RefusesUnchanged before now (fault.Slot slot.Disk) = Unit {0}
RefusesUnchanged before now _ = Unchanged before now

-- What opening answers and what it does. At Ok the store is over the file, and has what was found there. A
-- refusal is the first that applies, and changes nothing, unless the disk or memory failed; want of memory
-- changes nothing either, and a file that opens to nothing is left alone also where the disk failed.
pub record IsOpening (classes : ℕ) (before now : disk.State)
    (result : Result StoreValue OpenFault) : Type 0 where
  pub opened : IsTrue before.tells → IfOk result (IsOpened classes before.file now.file)
  pub over : IsTrue before.tells → IfOk result (λ s. IsOver classes s now.file)
  pub fresh : IfOk result (IsFresh classes)
  pub refused : IsTrue before.tells → IfErr result (RefusesToOpen classes before.file)
  pub found : IsTrue before.tells → (t : choice.SlotTable) (m : Map) (b : Book)
      → OpensBy classes SIZE_MAX t before.file m b → OpensFound classes t m b before now result
  pub unchanged : IfErr result (RefusesUnchanged before now)
  pub closed : IsTrue before.tells → ((m : Map) (b : Book) → Opens classes SIZE_MAX before.file m b → ⊥)
      → Unchanged before now
  pub frame : KeepsDisk before now
  pub cause : HasDiskCause (fault.Slot slot.Disk) before.faults now.faults result

-- ---- a file that is cut

-- A longer file was cut to a length and synced, or the disk failed.
pub record IsCut {T E : Type 0} (len : ℕ) (before now : disk.State) (result : Result T E) : Type 0 where
  pub either : (now.file ≡ before.file) ⊎ (now.file ≡ resized before.file len)
  pub done : OnOk result (now.file ≡ resized before.file len)
  pub left : Leaves before now (λ image. (old : List ℕ) × before.may_leave old × ResizedImage len old image)
  pub only : OnOk result (Only now.file now.may_leave)
  pub all : OnOk result (now.turn ≡ counted before.turn 2)
  pub most : now.turn ≤ before.turn + 2
  pub asks : Asks (2 * call_weight) len before now
