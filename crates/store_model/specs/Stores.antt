-- What a store keeps while it isn't broken.
use Rattle.std.specs.Prelude.{◌≡◌, ℕ, ◌≤◌, List, Some}
use Rattle.std.specs.FinMap as fin
use Rattle.size_class.specs.declared.TheConstants.{SIZE_MAX}
use Rattle.slot_codec.specs.Readable.{IsSuperBlock}
use Rattle.slot_codec.specs.Spelling.{cap}
use Rattle.segment_layout.specs.Books.{version_of}
use Rattle.extent_table.specs.declared.spot.Spot.{Spot}
use Rattle.extent_table.specs.Extents.{IsInRange, Spots}
use Rattle.placement_model.specs.LaidOut.{IsLaidOut}
use Rattle.placement_model.specs.Reads.{AreNamed}
use Rattle.placement_model.specs.Rises.{CellsRise}
use Rattle.store_model.specs.Connection.{StoreValue, live_cap}
use Rattle.store_model.specs.Digested.{digested_book}

-- places and sizes are numbers that a record of the file can hold
abbrev pub AreInRange : Spots → Type 0
AreInRange spots = (name : List ℕ) (x : Spot) → fin.get spots name ≡ Some x → IsInRange x

-- What holds of each store that isn't broken, also while a flush is in hand: where the data part begins is
-- low, and the places have names and are in range.
pub record IsStanding (s : StoreValue) : Type 0 where
  pub block : IsSuperBlock s.in_use.block
  pub now_named : AreNamed s.now
  pub kept_named : AreNamed s.kept
  pub now_in_range : AreInRange s.now
  pub kept_in_range : AreInRange s.kept

-- One row of capacities holds the objects of now with what their buffers have taken, and those of the last
-- checkpoint with what theirs had: each book is what this layout shows, and no more names are live than a
-- table of its version has records. No buffer has taken less in any class
-- than at the checkpoint, so what is charged since lies behind all that is held, and going back leaves the
-- length right.
pub record IsStore (classes : ℕ) (s : StoreValue) : Type 0 where
  pub block : IsSuperBlock s.in_use.block
  pub now : IsLaidOut classes SIZE_MAX s.in_use.block.k s.book.caps s.book.grid s.now
  pub now_book : s.book
      ≡ digested_book classes s.in_use.block.k s.book.caps s.book.grid s.now s.book.digests
  pub now_few : fin.len s.now ≤ live_cap s
  pub now_in_range : AreInRange s.now
  pub kept : IsLaidOut classes SIZE_MAX s.in_use.block.k s.book.caps s.kept_book.grid s.kept
  pub kept_book : s.kept_book
      ≡ digested_book classes s.in_use.block.k s.book.caps s.kept_book.grid s.kept s.kept_book.digests
  pub kept_few : fin.len s.kept ≤ cap s.in_use.block.names (version_of s.kept_book)
  pub kept_in_range : AreInRange s.kept
  pub fuller : CellsRise s.kept_book.grid s.book.grid
