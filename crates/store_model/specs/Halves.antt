-- A store with a flush in hand, and how it and its disk belong together.
use Rattle.std.specs.Prelude.{◌≡◌, ◌⊎◌, ℕ, ◌+◌, ◌-◌, ◌*◌, true, Bool, List, length, Some, IsTrue}
use Rattle.disk_face.specs.States as disk
use Rattle.size_class.specs.declared.TheConstants.{SIZE_MAX}
use Rattle.map_model.specs.Maps.{Map}
use Rattle.segment_layout.specs.Books.{Book}
use Rattle.segment_layout.specs.Bounds.{Loose}
use Rattle.table_rules.specs.Opening.{Opens}
use Rattle.table_rules.specs.Sequences.{HasSequenceUpTo}
use Rattle.flush_run.specs.FlushFrames.{FlushFrame, MidFlush}
use Rattle.store_model.specs.Connection.{FlushInHand, IsConnected, StoreValue, base_of}

-- What a flush in hand began with: the map before its request and after it, the map and the book of the last
-- checkpoint, and whether each image opened to these as it began.
pub record Origin : Type 0 where
  pub before : Map
  pub after : Map
  pub kept_map : Map
  pub kept_book : Book
  pub is_at_rest : Bool

-- What stays the same while it is in hand: it goes from that checkpoint to the map and the book after.
abbrev pub frame_at : ℕ → StoreValue → FlushInHand → Origin → FlushFrame
frame_at classes s h o = record {
  classes = classes;
  size_max = SIZE_MAX;
  base = base_of s;
  reach = h.reach;
  is_fresh = true;
  is_at_rest = o.is_at_rest;
  old_map = o.kept_map;
  old_book = o.kept_book;
  new_map = o.after;
  new_book = h.book_after;
}

-- The disk half agrees: the content gives each name of the map after its bytes at its present place, and ends
-- where the flush reaches to; it opens by the table in use, which is the last checkpoint or has the map and
-- the book after, and so does each image; and what lies within the reach is within bounds for the maps before
-- and after.
pub record HalfAgrees (classes : ℕ) (s : StoreValue) (h : FlushInHand) (o : Origin)
    (d : disk.State) : Type 0 where
  pub flies : MidFlush (frame_at classes s h o) s.in_use s.now s.kept d.file d.may_leave
  pub loose : Loose s.in_use.block.k h.reach o.before o.after

-- A flush is in hand, objects are judged by the digests of the book after, and where the disk tells its
-- content it half agrees.
pub record IsHalfway (classes : ℕ) (s : StoreValue) (d : disk.State) : Type 0 where
  pub hand : FlushInHand
  pub is : s.in_hand ≡ Some hand
  pub digests : s.book.digests ≡ hand.book_after.digests
  pub half : IsTrue d.tells → (o : Origin) × HalfAgrees classes s hand o d

-- objects of now may be read: between two requests, or between two steps of a flush
abbrev pub IsReadable : ℕ → StoreValue → disk.State → Type 0
IsReadable classes s d = IsConnected classes s d ⊎ IsHalfway classes s d

-- An image that is left meanwhile opens to the last checkpoint or to the map and the book after, with a
-- sequence at most 2k + 1 greater than the flush began with, and its data part is within bounds for the maps
-- before and after.
pub record IsHalfImage (classes : ℕ) (s : StoreValue) (h : FlushInHand) (o : Origin)
    (image : List ℕ) : Type 0 where
  pub opens : Opens classes SIZE_MAX image o.kept_map o.kept_book
      ⊎ Opens classes SIZE_MAX image o.after h.book_after
  pub sequence : HasSequenceUpTo (h.began + 2 * s.in_use.block.k + 1) image
  pub loose : Loose s.in_use.block.k (length image - base_of s) o.before o.after
