-- What a save of a checkpoint leaves.
use Rattle.std.specs.Prelude.{◌≡◌, ◌⊎◌, ℕ, ◌+◌, ◌-◌, ◌*◌, ◌/◌, ◌^◌, ◌<◌, ◌≤◌, IsTrue, true, if◌then◌else◌, List, [], length, flat_map, slice_index_or, Ok}
use Rattle.byte_ranges.specs.Ranges.{SameBelow, SameFrom, bytes_at}
use Rattle.disk_face.specs.Frames.{call_weight}
use Rattle.disk_face.specs.Moments.{Leaves, Rests}
use Rattle.disk_face.specs.States.{State}
use Rattle.slot_codec.specs.Choice as choice
use Rattle.slot_codec.specs.Readable.{AreInRange}
use Rattle.slot_codec.specs.Reading.{all_in_range, is_version, worn_from}
use Rattle.slot_codec.specs.Spelling.{cap, gate_at, head_len, header_bytes, header_len, record_bytes, record_len, slot_at}
use Rattle.slot_codec.specs.declared.codec.Header.{Header}
use Rattle.slot_codec.specs.declared.codec.Record.{Record}

-- What is asked of a save: a sequence is left, the header is of a version and its numbers are in range, and
-- the slot has room for the records, whose numbers are in range.
pub record CanSave (u : choice.InUse) (h : Header) (rs : List Record) : Type 0 where
  pub fresh : u.sequence < 2 ^ 62 - 1
  pub version : IsTrue (is_version h.version)
  pub ranges : IsTrue (all_in_range h)
  pub records : AreInRange rs
  pub count : length rs ≤ cap u.block.names h.version

-- the changing calls of a save of so many records
abbrev pub save_calls : ℕ → ℕ
save_calls count = 6 + (count + 511) / 512

-- at most how many bytes spell the changing calls of a save: 17 each, and what they write, which is a header, the
-- records, and at most nine bytes that close and open a slot
abbrev pub save_weight : ℕ → ℕ → ℕ
save_weight version count = call_weight * save_calls count + (9 + header_len + record_len version * count)

-- the slot in use after the next save
abbrev pub next_in_use : choice.InUse → choice.InUse
next_in_use u = record { block = u.block; slot = 1 - u.slot; sequence = u.sequence + 1; other_open = true }

-- the pair after a save, which answered the sequence that it has then
pub record IsNextPair (u v : choice.InUse) (sequence : ℕ) : Type 0 where
  pub answer : sequence ≡ u.sequence + 1
  pub pair : v ≡ next_in_use u

-- the header that the next save writes
abbrev pub next_header : choice.InUse → Header → ℕ → Header
next_header u header count = record header { sequence = u.sequence + 1; count = count }

-- the slot in use after the next save, with its header
abbrev pub next_chosen : choice.InUse → Header → ℕ → choice.Chosen
next_chosen u header count = record {
  block = u.block;
  slot = 1 - u.slot;
  header = next_header u header count;
}

-- a file has this slot in use with this header, and the records that another file has there
pub record KeepsTable (c : choice.Chosen) (file image : List ℕ) : Type 0 where
  pub same_slot : choice.chosen image ≡ Ok c
  pub same_records : choice.records_text image c ≡ choice.records_text file c

-- a file has this slot in use with this header, and the table of these records
pub record IsSaved (c : choice.Chosen) (records : List Record) (image : List ℕ) : Type 0 where
  pub slot : choice.chosen image ≡ Ok c
  pub table : choice.table_of image ≡ Ok (choice.table_with c records)

-- Once a save is done, the other slot is in use, with the table where the header isn't worn, and a crash
-- leaves what reads give.
pub record IsSaveDone (u : choice.InUse) (h : Header) (rs : List Record) (b : State) : Type 0 where
  pub in_use : choice.slot_in_use b.file ≡ Ok (next_in_use u)
  pub saved : u.sequence + 1 < worn_from h.kind → IsSaved (next_chosen u h (length rs)) rs b.file
  pub rests : Rests b

-- What a save may leave at any moment, from images that had `may_leave`: the old table beside what an
-- old image, or the content, has from the data on; or the new table beside what the content has there.
pub record LeavesOld (c : choice.Chosen) (base : ℕ) (may_leave : List ℕ → Type 0) (file image : List ℕ) : Type
    0 where
  pub table : KeepsTable c file image
  pub before : List ℕ
  pub was : may_leave before ⊎ (before ≡ file)
  pub data_part : SameFrom base before image

pub record LeavesNew (c : choice.Chosen) (records : List Record) (base : ℕ) (file image : List ℕ) : Type 0
  where
    pub table : IsSaved c records image
    pub data_part : SameFrom base file image

-- the old table or the new one
abbrev pub HasOldOrNewTable : choice.InUse → choice.Chosen → Header → List Record → List ℕ → List ℕ → Type 0
HasOldOrNewTable u old h rs file image = KeepsTable old file image
    ⊎ IsSaved (next_chosen u h (length rs)) rs image

-- the same, with the data part that stands beside it
abbrev pub LeavesEither : choice.InUse → choice.Chosen → Header → List Record → (List ℕ → Type 0) → List ℕ
    → List ℕ → Type 0
LeavesEither u old h rs may_leave file image =
    LeavesOld old (head_len u.block.names) may_leave file image
    ⊎ LeavesNew (next_chosen u h (length rs)) rs (head_len u.block.names) file image

-- a file is long enough for a data part, and what lies below it is the same in another
pub record IsAlikeBelow (base : ℕ) (file image : List ℕ) : Type 0 where
  pub long : base ≤ length image
  pub bytes : SameBelow base file image

-- What a save leaves, whether or not it fails. The data part stays. Where neither the old header nor the
-- new one is refused, the content has the old table or the new one; and if at first each image was like the
-- content below the data part, then each image left since has one of the two.
pub record SaveLeaves (u : choice.InUse) (h : Header) (rs : List Record) (a b : State) : Type 0 where
  pub data_part : SameFrom (head_len u.block.names) a.file b.file
  pub old_or_new : (old : choice.Chosen) → choice.chosen a.file ≡ Ok old → u.sequence + 1 < worn_from h.kind
      → HasOldOrNewTable u old h rs a.file b.file
  pub images : (old : choice.Chosen) → choice.chosen a.file ≡ Ok old → u.sequence + 1 < worn_from h.kind
      → ((image : List ℕ) → a.may_leave image → IsAlikeBelow (head_len u.block.names) a.file image)
      → Leaves a b (LeavesEither u old h rs a.may_leave a.file)

-- the bytes that a save writes first: the other gate where it is open, else the sequence behind it
abbrev pub closing_at : choice.InUse → ℕ
closing_at u = if u.other_open then gate_at u.block.names (1 - u.slot)
    else slot_at u.block.names (1 - u.slot) + 8

abbrev pub closing_len : choice.InUse → ℕ
closing_len u = if u.other_open then 1 else 8

-- a header, and behind it records, stand at a position
pub record HasTable (at : ℕ) (h : Header) (rs : List Record) (file : List ℕ) : Type 0 where
  pub header : bytes_at file at header_len ≡ header_bytes h
  pub records : bytes_at file (at + header_len) (record_len h.version * length rs)
      ≡ flat_map (record_bytes h.version) rs

-- what the types of a header's fields say of it
pub record IsWhole (h : Header) : Type 0 where
  pub boundary : h.boundary < 256
  pub caps_full : length h.caps ≡ 32
  pub used_full : length h.used ≡ 32
  pub rows_full : (j : ℕ) → j < 32 → length (slice_index_or h.used j []) ≡ 32
