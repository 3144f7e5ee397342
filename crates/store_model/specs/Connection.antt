-- How a store and its disk belong together.
use Rattle.std.specs.Prelude.{◌≡◌, ℕ, ◌+◌, Bool, false, List, length, Option, Ok, Some, None, IsTrue}
use Rattle.std.specs.FinMap as fin
use Rattle.byte_ranges.specs.Ranges.{SameBelow, SameWithin}
use Rattle.disk_face.specs.States as disk
use Rattle.size_class.specs.Classes.{zero_row}
use Rattle.size_class.specs.declared.TheConstants.{SIZE_MAX}
use Rattle.slot_codec.specs.Spelling.{cap, head_len}
use Rattle.slot_codec.specs.Choice as choice
use Rattle.map_model.specs.Maps.{Map}
use Rattle.segment_layout.specs.Books.{Book, book_end, version_of, with_digests}
use Rattle.table_rules.specs.Opening.{Opens, OpensBy}
use Rattle.table_rules.specs.Sequences.{HasSequenceUpTo}
use Rattle.extent_table.specs.declared.spot.Spot.{Spot}
use Rattle.extent_table.specs.Extents.{Spots, records_of}
use Rattle.placement_model.specs.Laid.{book_at}
use Rattle.placement_model.specs.Reads.{read_at}
use Rattle.store_model.specs.States.{Limits, State}

-- A flush in hand, as contracts see it: how far its file reaches, the class from which on it lays the layout
-- out anew, how many steps may still come, the sequence and the bytes moved as it began, and the book after.
pub record FlushInHand : Type 0 where
  pub reach : ℕ
  pub boundary : ℕ
  pub left : ℕ
  pub began : ℕ
  pub moved_then : List ℕ
  pub book_after : Book

-- What a store keeps, as its contracts see it: the slot in use, where the objects stand now and where they
-- stood at the last checkpoint, the books of both, whether it is broken, the bytes moved and asked for, and
-- the flush in hand. While one is, the book of after is the flush's, and of `book` the digests alone count.
pub record StoreValue : Type 0 where
  pub in_use : choice.InUse
  pub now : Spots
  pub kept : Spots
  pub book : Book
  pub kept_book : Book
  pub is_broken : Bool
  pub moved : List ℕ
  pub asked : List ℕ
  pub in_hand : Option FlushInHand

-- where the data part begins
abbrev pub base_of : StoreValue → ℕ
base_of s = head_len s.in_use.block.names

-- what is fixed for it
abbrev pub limits_of : StoreValue → Limits
limits_of s = record { k = s.in_use.block.k; names = s.in_use.block.names; size_max = SIZE_MAX }

-- how many names may be live in it, by the version of its book
abbrev pub live_cap : StoreValue → ℕ
live_cap s = cap s.in_use.block.names (version_of s.book)

-- what a file gives where the objects stood at the last checkpoint
abbrev pub kept_map : StoreValue → List ℕ → Map
kept_map s file = read_at (base_of s) file s.kept

-- the state of a store over a file: the bytes are those of the file
abbrev pub state_of : StoreValue → List ℕ → State
state_of s file =
    record {
      map = read_at (base_of s) file s.now;
      kept = kept_map s file;
      book = s.book;
      kept_book = s.kept_book;
      sequence = s.in_use.sequence;
    }

-- the content opens to the checkpoint that the store keeps, by the slot and the places that it keeps
pub record HasCheckpoint (classes : ℕ) (s : StoreValue) (file : List ℕ) (t : choice.SlotTable) : Type 0 where
  pub slot : choice.slot_in_use file ≡ Ok s.in_use
  pub records : t.records ≡ records_of s.kept
  pub opens : OpensBy classes SIZE_MAX t file (kept_map s file) s.kept_book

-- the store is over this file
pub record IsOver (classes : ℕ) (s : StoreValue) (file : List ℕ) : Type 0 where
  pub table : choice.SlotTable
  pub checkpoint : HasCheckpoint classes s file table
  pub same_length : length file ≡ base_of s + book_end s.in_use.block.k s.book

-- No flush is in hand; and the store is broken, or the disk tells no content, or the store is over its file.
pub record IsConnected (classes : ℕ) (s : StoreValue) (d : disk.State) : Type 0 where
  pub idle : s.in_hand ≡ None
  pub over : s.is_broken ≡ false → IsTrue d.tells → IsOver classes s d.file

-- an image has the content's length, and the same bytes below the data part and on the objects of a
-- checkpoint
pub record SameOnTable (base : ℕ) (kept : Spots) (file image : List ℕ) : Type 0 where
  pub same_length : length image ≡ length file
  pub below : SameBelow base file image
  pub objects : (name : List ℕ) (s : Spot) → fin.get kept name ≡ Some s
      → SameWithin (base + s.place) (base + s.place + s.size) file image

-- the disk rests on the table of a checkpoint: each image that a crash may leave is so
abbrev pub RestsOnTable : ℕ → Spots → disk.State → Type 0
RestsOnTable base kept d = (image : List ℕ) → d.may_leave image → SameOnTable base kept d.file image

-- an image that opens to the last checkpoint, by a table with no greater sequence, and has the content's
-- bytes where that checkpoint has its own
pub record IsKeptImage (classes : ℕ) (s : StoreValue) (file image : List ℕ) : Type 0 where
  pub same : SameOnTable (base_of s) s.kept file image
  pub opens : Opens classes SIZE_MAX image (kept_map s file) s.kept_book
  pub sequence : HasSequenceUpTo s.in_use.sequence image

-- A store as it is opened: nothing was moved or asked for, and both books are that of its table.
abbrev pub opened_store : ℕ → choice.InUse → Spots → Option Map → List ℕ → List (List ℕ) → StoreValue
opened_store classes u spots digests caps grid =
    record {
      in_use = u;
      now = spots;
      kept = spots;
      book = with_digests digests (book_at classes SIZE_MAX u.block.k caps grid spots);
      kept_book = with_digests digests (book_at classes SIZE_MAX u.block.k caps grid spots);
      is_broken = false;
      moved = zero_row;
      asked = zero_row;
      in_hand = None;
    }
