-- The two slots of a file, whether they have logs or have none, and what one save does to either.
use Rattle.std.specs.Prelude.{◌≡◌, ◌⊎◌, ℕ, ◌+◌, ◌-◌, ◌*◌, ◌^◌, ◌<◌, ◌≤◌, IsTrue, if◌then◌else◌, Bool, true, false, List, length, Result, Ok}
use Rattle.byte_ranges.specs.Lists.{◌>>=◌}
use Rattle.byte_ranges.specs.Ranges.{SameFrom}
use Rattle.disk_face.specs.Frames.{call_weight}
use Rattle.disk_face.specs.Moments.{Leaves, Rests}
use Rattle.disk_face.specs.States.{State}
use Rattle.slot_codec.specs.Changes.{Change}
use Rattle.slot_codec.specs.Choice.{InUse, SlotRefusal, SlotTable, slot_in_use, table_with}
use Rattle.slot_codec.specs.Logs.{table_in}
use Rattle.slot_codec.specs.Readable.{AreInRange}
use Rattle.slot_codec.specs.Reading.{all_in_range, is_version_in, worn_in}
use Rattle.slot_codec.specs.Rolls.{IsRoll}
use Rattle.slot_codec.specs.Spelling.{cap, head_len}
use Rattle.slot_codec.specs.declared.codec.Header.{Header}
use Rattle.slot_codec.specs.declared.codec.Record.{Record}
use Rattle.slot_codec.specs.declared.entry.EntryHead.{EntryHead}
use Rattle.slot_pair.specs.Saves.{IsAlikeBelow, next_header, next_in_use, save_calls, save_weight}
use Rattle.logged_pair.specs.Pairs.{LoggedTable, in_log}
use Rattle.logged_pair.specs.Saves.{HasRecords, change_bytes, change_calls, next_in_log}
use Rattle.logged_pair.specs.declared.slots.Slots.{Slots}
use Rattle.logged_pair.specs.declared.slots.Slots.TheVariants as slots

-- ---- which slots they are

abbrev pub has_logs : Slots → Bool
has_logs (slots.Plain u) = false
has_logs (slots.Logged v) = true

-- the slot in use; where it has a log, the sequence is the one behind it
abbrev pub used_in : Slots → InUse
used_in (slots.Plain u) = u
used_in (slots.Logged v) = v.in_use

-- the slots of a file, or the first refusal
abbrev pub slots_in : Bool → List ℕ → Result Slots SlotRefusal
slots_in logged file = if logged then (in_log file >>= λ v. Ok (slots.Logged v))
    else (slot_in_use file >>= λ u. Ok (slots.Plain u))

-- the log of a file leads to these records
pub record LeadsTo (records : List Record) (file : List ℕ) : Type 0 where
  pub table : LoggedTable
  pub has : HasRecords table records file

-- a file has this table, and a log leads to these records, if its slots have logs
pub record HasTable (logged : Bool) (t : SlotTable) (records : List Record) (file : List ℕ) : Type 0 where
  pub read : table_in logged file ≡ Ok t
  pub log : logged ≡ true → LeadsTo records file

-- ---- what is asked

-- an entry can say what leads from records to others
pub record CanBeSaid (names : ℕ) (before : List Record) (changes : List Change) : Type 0 where
  pub roll : IsRoll before
  pub room : length before ≤ cap names 3
  pub few : length changes ≤ 2 ^ 32

-- What is asked of a save: a sequence is left, the header is of a version that such a file has and its
-- numbers are in range, and the slot has room for the records, whose numbers are in range. Where the slots
-- have logs, an entry can say what changed.
pub record CanSaveTable (s : Slots) (h : Header) (before now : List Record) (changes : List Change) : Type 0
  where
    pub fresh : (used_in s).sequence < 2 ^ 62 - 1
    pub version : IsTrue (is_version_in (has_logs s) h.version)
    pub ranges : IsTrue (all_in_range h)
    pub records : AreInRange now
    pub count : length now ≤ cap (used_in s).block.names h.version
    pub said : has_logs s ≡ true → CanBeSaid (used_in s).block.names before changes

-- ---- what it does

-- the slots after the next save, of so many records; an entry would have this head
abbrev pub next_slots : Slots → EntryHead → ℕ → Slots
next_slots (slots.Plain u) head count = slots.Plain (next_in_use u)
next_slots (slots.Logged v) head count = slots.Logged (next_in_log v head count)

-- the slots after a save, which answered the sequence that they have then
pub record AreNextSlots (s t : Slots) (head : EntryHead) (count sequence : ℕ) : Type 0 where
  pub answer : sequence ≡ (used_in s).sequence + 1
  pub slots : t ≡ next_slots s head count

-- the changing calls of a save
abbrev pub table_calls : Slots → EntryHead → ℕ → ℕ
table_calls (slots.Plain u) head count = save_calls count
table_calls (slots.Logged v) head count = change_calls v head count

-- at most how many bytes spell them
abbrev pub table_weight : Slots → ℕ → EntryHead → ℕ → ℕ
table_weight (slots.Plain u) version head count = save_weight version count
table_weight (slots.Logged v) version head count =
    call_weight * change_calls v head count + change_bytes v head count

-- ---- what it leaves

-- the table after a save by which slots come to be others
abbrev pub table_after : Slots → Slots → Header → List Record → SlotTable
table_after s t h now = table_with (record {
  block = (used_in s).block;
  slot = (used_in t).slot;
  header = next_header (used_in s) h (length now);
}) now

-- Once a save is done, the slots are those of the file, and a crash leaves what reads give. Where the next
-- sequence isn't worn, the table is the new one; the log of a slot has to lead to the records before.
pub record IsTableSaved (s t : Slots) (h : Header) (before now : List Record) (a b : State) : Type 0 where
  pub slots : slots_in (has_logs s) b.file ≡ Ok t
  pub saved : (has_logs s ≡ true → LeadsTo before a.file)
      → (used_in s).sequence + 1 < worn_in (has_logs s) h.kind
      → HasTable (has_logs s) (table_after s t h now) now b.file
  pub rests : Rests b

-- What a save may leave at any moment, from images that had `may_leave`: the old table beside what an old
-- image, or the content, has from the data on; or the new table beside what the content has there.
pub record LeavesBefore (logged : Bool) (x : SlotTable) (before : List Record) (base : ℕ)
    (may_leave : List ℕ → Type 0) (file image : List ℕ) : Type 0
  where
    pub table : HasTable logged x before image
    pub from : List ℕ
    pub was : may_leave from ⊎ (from ≡ file)
    pub data_part : SameFrom base from image

pub record LeavesAfter (logged : Bool) (y : SlotTable) (now : List Record) (base : ℕ) (file image : List ℕ)
    : Type 0
  where
    pub table : HasTable logged y now image
    pub data_part : SameFrom base file image

-- What a save leaves, whether or not it fails. The data part stays. Where the file had a table of the records
-- before, and the next sequence isn't worn, the content has the old table or the new one; and if at first
-- each image was like the content below the data part, then each image left since has one of the two.
pub record TableSaveLeaves (s t : Slots) (h : Header) (before now : List Record) (a b : State) : Type 0 where
  pub data_part : SameFrom (head_len (used_in s).block.names) a.file b.file
  pub old_or_new : (x : SlotTable) → HasTable (has_logs s) x before a.file
      → (used_in s).sequence + 1 < worn_in (has_logs s) h.kind
      → HasTable (has_logs s) x before b.file
      ⊎ HasTable (has_logs s) (table_after s t h now) now b.file
  pub images : (x : SlotTable) → HasTable (has_logs s) x before a.file
      → (used_in s).sequence + 1 < worn_in (has_logs s) h.kind
      → ((image : List ℕ) → a.may_leave image
      → IsAlikeBelow (head_len (used_in s).block.names) a.file image)
      → Leaves a b (λ image.
      LeavesBefore (has_logs s) x before (head_len (used_in s).block.names) a.may_leave a.file image
      ⊎ LeavesAfter (has_logs s) (table_after s t h now) now (head_len (used_in s).block.names) a.file image)
