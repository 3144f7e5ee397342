-- What holds between any two device calls of a flush.
use Rattle.std.specs.Prelude.{◌≡◌, ◌⊎◌, ℕ, ◌+◌, ◌≤◌, Bool, IsTrue, List, length, Ok, Some}
use Rattle.std.specs.FinMap as fin
use Rattle.byte_ranges.specs.Ranges.{SameBelow}
use Rattle.slot_codec.specs.Spelling.{head_len}
use Rattle.slot_codec.specs.Choice as choice
use Rattle.map_model.specs.Maps.{Map}
use Rattle.segment_layout.specs.Books.{Book}
use Rattle.table_rules.specs.Opening.{Opens, OpensBy}
use Rattle.table_rules.specs.Sequences.{HasSequenceUpTo}
use Rattle.extent_table.specs.declared.spot.Spot.{Spot}
use Rattle.disk_face.specs.States.{State}
use Rattle.disk_face.specs.Moments.{Leaves}
use Rattle.extent_table.specs.Extents.{Extents, Spots, records_of}
use Rattle.placement_model.specs.Reads.{LiesApart, read_at}

-- What stays the same in a flush: the limits, where the data part begins, how far it reaches, and the map and
-- the
-- book of before and of after. Whether the sequence leaves room for all saves of the flush, so that what is
-- saved
-- on its way opens; and whether each image opened to the map and the book of before as the flush began.
pub record FlushFrame : Type 0 where
  pub classes : ℕ
  pub size_max : ℕ
  pub base : ℕ
  pub reach : ℕ
  pub is_fresh : Bool
  pub is_at_rest : Bool
  pub old_map : Map
  pub old_book : Book
  pub new_map : Map
  pub new_book : Book

-- the map and the book of before, or those of after
abbrev pub IsBeforeOrAfter : FlushFrame → Map → Book → Type 0
IsBeforeOrAfter f m b = ((m ≡ f.old_map) × (b ≡ f.old_book)) ⊎ ((m ≡ f.new_map) × (b ≡ f.new_book))

-- a file opens to the map and the book of before, or of after, by a table of at most this sequence, and is no
-- longer than the flush reaches
pub record IsOldOrNew (f : FlushFrame) (most : ℕ) (image : List ℕ) : Type 0 where
  pub m : Map
  pub b : Book
  pub either : IsBeforeOrAfter f m b
  pub opens : Opens f.classes f.size_max image m b
  pub sequence : HasSequenceUpTo most image
  pub longest : length image ≤ f.base + f.reach

-- the last checkpoint: which of the two it is, and that its records are those of the spots that were kept
pub record IsCheckpoint (f : FlushFrame) (t : choice.SlotTable) (kept : Spots) (m : Map)
    (b : Book) : Type 0 where
  pub either : IsBeforeOrAfter f m b
  pub base : f.base ≡ head_len t.chosen.block.names
  pub records : t.records ≡ records_of kept

-- What the content has at any moment: the slot in use, the reach, and each live object, which together are
-- the map
-- of after.
pub record ContentHolds (f : FlushFrame) (in_use : choice.InUse) (now : Spots) (file : List ℕ) : Type 0 where
  pub base : f.base ≡ head_len in_use.block.names
  pub slot : choice.slot_in_use file ≡ Ok in_use
  pub same_length : length file ≡ f.base + f.reach
  pub within : (name : List ℕ) (s : Spot) → fin.get now name ≡ Some s → s.place + s.size ≤ f.reach
  pub live : read_at f.base file now ≡ f.new_map

-- what each image has: the checkpoint, the content's bytes below the data part, and a length up to the reach
pub record MidFlushImage (f : FlushFrame) (t : choice.SlotTable) (m : Map) (b : Book)
    (file image : List ℕ) : Type 0
  where
    pub opens : OpensBy f.classes f.size_max t image m b
    pub below : SameBelow f.base file image
    pub longest : length image ≤ f.base + f.reach

-- What opens: the content does by the checkpoint's table, and so does each image.
pub record OpensEither (f : FlushFrame) (kept : Spots) (file : List ℕ) (may_leave : List ℕ → Type 0) : Type 0
  where
    pub t : choice.SlotTable
    pub m : Map
    pub b : Book
    pub checkpoint : IsCheckpoint f t kept m b
    pub opens : OpensBy f.classes f.size_max t file m b
    pub images : IsTrue f.is_at_rest → (image : List ℕ) → may_leave image → MidFlushImage f t m b file image

-- Between any two device calls of a flush, where its content is told.
pub record MidFlush (f : FlushFrame) (in_use : choice.InUse) (now kept : Spots) (file : List ℕ)
    (may_leave : List ℕ → Type 0) : Type 0 where
  pub content : ContentHolds f in_use now file
  pub opens : IsTrue f.is_fresh → OpensEither f kept file may_leave

-- n bytes at a place hold nothing that is live, and nothing of the last checkpoint
pub record IsFreeSpace (now kept : Spots) (place n : ℕ) : Type 0 where
  pub live : (name : List ℕ) (s : Spot) → fin.get now name ≡ Some s → LiesApart place n s
  pub held : (name : List ℕ) (s : Spot) → fin.get kept name ≡ Some s → LiesApart place n s

-- what a disk has in flight
abbrev pub IsMidFlush : FlushFrame → choice.InUse → Extents → State → Type 0
IsMidFlush f u e d = MidFlush f u e.now e.kept d.file d.may_leave

-- Since a moment a crash left only what opens to the map and the book of before, or of after, by a table
-- of at most this sequence; and so does the content now.
abbrev pub LeavesOldOrNew : FlushFrame → ℕ → State → State → Type 0
LeavesOldOrNew f most first now =
    IsTrue f.is_fresh → (IsTrue f.is_at_rest → Leaves first now (IsOldOrNew f most))
    × IsOldOrNew f most now.file
