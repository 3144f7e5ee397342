-- What a save of changes asks, does and leaves.
use Rattle.std.specs.Prelude.{◌≡◌, ◌⊎◌, ℕ, ◌+◌, ◌-◌, ◌*◌, ◌^◌, ◌<◌, ◌≤◌, ◌&&◌, nat_le, nat_lt, IsTrue, if◌then◌else◌, Bool, false, List, length, slice_index, Ok}
use Rattle.byte_ranges.specs.Ranges.{SameFrom}
use Rattle.disk_face.specs.Moments.{Leaves, Rests}
use Rattle.disk_face.specs.States.{State}
use Rattle.slot_codec.specs.Cells.{header_cells}
use Rattle.slot_codec.specs.Changes.{Change}
use Rattle.slot_codec.specs.Entries.{entry_len, entry_room}
use Rattle.slot_codec.specs.Logs.{first_gate, log_top}
use Rattle.slot_codec.specs.Readable.{AreInRange}
use Rattle.slot_codec.specs.Reading.{all_in_range, log_worn_from}
use Rattle.slot_codec.specs.Rolls.{IsRoll}
use Rattle.slot_codec.specs.Rows.{rows_of}
use Rattle.slot_codec.specs.Spelling.{cap, gate_at, head_len, header_len, slot_at}
use Rattle.slot_codec.specs.declared.codec.Header.{Header}
use Rattle.slot_codec.specs.declared.codec.Record.{Record}
use Rattle.slot_codec.specs.declared.entry.EntryHead.{EntryHead}
use Rattle.slot_pair.specs.Appends.{append_calls}
use Rattle.slot_pair.specs.Bases.{base_calls, base_len, closing_calls}
use Rattle.slot_pair.specs.Saves.{IsAlikeBelow, next_header, next_in_use}
use Rattle.logged_pair.specs.Pairs.{InLog, LoggedTable, in_log, logged_in, top_of}

-- What is asked of a save: a sequence is left, the header is of version 3 and its numbers are in range, and
-- the slot has room for the records, whose numbers are in range. Those of before rise by name, and there was
-- room for them.
pub record CanSaveChanges (u : InLog) (h : Header) (before now : List Record) (changes : List Change) : Type 0
  where
    pub fresh : u.in_use.sequence < 2 ^ 62 - 1
    pub version : h.version ≡ 3
    pub ranges : IsTrue (all_in_range h)
    pub records : AreInRange now
    pub count : length now ≤ cap u.in_use.block.names 3
    pub roll : IsRoll before
    pub room : length before ≤ cap u.in_use.block.names 3
    pub few : length changes ≤ 2 ^ 32

-- ---- which save it is

-- the head of an entry whose counts are those of a list of changes
pub record IsSmall (head : EntryHead) : Type 0 where
  pub cells : head.cells ≤ header_cells
  pub few : head.moved + head.gone + head.puts ≤ 2 ^ 32

-- An entry fits where one may be appended: it is no longer than a whole table of so many records, and the
-- gate behind it stands below the top.
abbrev pub fits : InLog → EntryHead → ℕ → Bool
fits u head count = nat_lt 0 u.end && nat_le (entry_len head) (header_len + 112 * count)
    && nat_lt (u.end + entry_room head) (top_of u.in_use)

-- the pair behind an entry more, with the other slot closed
abbrev pub appended : InLog → EntryHead → InLog
appended u head = record {
  in_use = record u.in_use { sequence = u.in_use.sequence + 1; other_open = false };
  end = u.end + entry_room head;
}

-- the pair after so many records are written into the other slot
abbrev pub rewritten : InLog → ℕ → InLog
rewritten u count =
    let v = next_in_use u.in_use in
    let first = first_gate v.block.names v.slot count in
    record { in_use = v; end = if nat_lt first (top_of v) then first else 0 }

-- the pair after the next save
abbrev pub next_in_log : InLog → EntryHead → ℕ → InLog
next_in_log u head count = if fits u head count then appended u head else rewritten u count

-- the pair after a save, which answered the sequence that it has then
pub record IsNextInLog (u v : InLog) (head : EntryHead) (count sequence : ℕ) : Type 0 where
  pub answer : sequence ≡ u.in_use.sequence + 1
  pub pair : v ≡ next_in_log u head count

-- ---- what it costs

-- one write closes the other slot in front of an entry, where it is open
abbrev pub one_if : Bool → ℕ
one_if b = if b then 1 else 0

-- the changing calls of a save
abbrev pub change_calls : InLog → EntryHead → ℕ → ℕ
change_calls u head count = if fits u head count
    then append_calls (entry_room head) + one_if u.in_use.other_open
    else closing_calls u.in_use.other_open + base_calls count + 2

-- the bytes that it writes
abbrev pub change_bytes : InLog → EntryHead → ℕ → ℕ
change_bytes u head count = if fits u head count
    then entry_room head + 1 + one_if u.in_use.other_open
    else base_len (slot_at u.in_use.block.names (1 - u.in_use.slot))
    (log_top u.in_use.block.names (1 - u.in_use.slot)) count + 1 + one_if u.in_use.other_open

-- ---- what it writes

-- two files are alike but for n bytes at a position, and for the gate of a slot
pub record SameButGate (names slot at n : ℕ) (a b : List ℕ) : Type 0 where
  pub same_length : length b ≡ length a
  pub bytes : (i : ℕ) → (i < at) ⊎ (at + n ≤ i) → (i < gate_at names slot) ⊎ (gate_at names slot < i)
      → slice_index a i ≡ slice_index b i

-- Where the entry fits, nothing is written but the gate of the other slot and the entry, with its own gate
-- and the one behind it: in the content, and in each image that is left meanwhile.
pub record WritesEntry (u : InLog) (room : ℕ) (a b : State) : Type 0 where
  pub others : IsTrue a.tells
      → SameButGate u.in_use.block.names (1 - u.in_use.slot) u.end (room + 1) a.file b.file
  pub since : Leaves a b (λ image. (before : List ℕ) × a.may_leave before
      × SameButGate u.in_use.block.names (1 - u.in_use.slot) u.end (room + 1) before image)

-- ---- what it leaves

-- the table after a save by which a pair comes to be v
abbrev pub next_table : InLog → InLog → Header → List Record → LoggedTable
next_table u v h now = record {
  chosen = record {
    block = u.in_use.block;
    slot = v.in_use.slot;
    header = next_header u.in_use h (length now);
  };
  rows = rows_of now;
}

-- a file has a table of these records
pub record HasRecords (t : LoggedTable) (before : List Record) (file : List ℕ) : Type 0 where
  pub read : logged_in file ≡ Ok t
  pub rows : t.rows ≡ rows_of before

-- Once a save is done, the pair is that of the file; a crash leaves what reads give; and where the next
-- sequence isn't worn, and the file had a table of the records before, its table is the new one.
pub record AreSaved (u v : InLog) (h : Header) (before now : List Record) (a b : State) : Type 0 where
  pub in_use : in_log b.file ≡ Ok v
  pub saved : (t : LoggedTable) → HasRecords t before a.file → u.in_use.sequence + 1 < log_worn_from h.kind
      → logged_in b.file ≡ Ok (next_table u v h now)
  pub rests : Rests b

-- What a save may leave at any moment, from images that had `may_leave`: the old table beside what an old
-- image, or the content, has from the data on; or the new table beside what the content has there.
pub record LeavesOldTable (t : LoggedTable) (base : ℕ) (may_leave : List ℕ → Type 0) (file image : List ℕ)
    : Type 0 where
  pub table : logged_in image ≡ Ok t
  pub before : List ℕ
  pub was : may_leave before ⊎ (before ≡ file)
  pub data_part : SameFrom base before image

pub record LeavesNewTable (t : LoggedTable) (base : ℕ) (file image : List ℕ) : Type 0 where
  pub table : logged_in image ≡ Ok t
  pub data_part : SameFrom base file image

-- the old table or the new one
abbrev pub HasOldOrNew : LoggedTable → LoggedTable → List ℕ → Type 0
HasOldOrNew old new file = (logged_in file ≡ Ok old) ⊎ (logged_in file ≡ Ok new)

-- What a save leaves, whether or not it fails. The data part stays. Where the file had a table of the records
-- before, and the next sequence isn't worn, the content has the old table or the new one; and if at first
-- each image was like the content below the data part, then each image left since has one of the two.
pub record ChangesLeave (u v : InLog) (h : Header) (before now : List Record) (a b : State) : Type 0 where
  pub data_part : SameFrom (head_len u.in_use.block.names) a.file b.file
  pub old_or_new : (t : LoggedTable) → HasRecords t before a.file
      → u.in_use.sequence + 1 < log_worn_from h.kind
      → HasOldOrNew t (next_table u v h now) b.file
  pub images : (t : LoggedTable) → HasRecords t before a.file → u.in_use.sequence + 1 < log_worn_from h.kind
      → ((image : List ℕ) → a.may_leave image → IsAlikeBelow (head_len u.in_use.block.names) a.file image)
      → Leaves a b (λ image. LeavesOldTable t (head_len u.in_use.block.names) a.may_leave a.file image
      ⊎ LeavesNewTable (next_table u v h now) (head_len u.in_use.block.names) a.file image)
