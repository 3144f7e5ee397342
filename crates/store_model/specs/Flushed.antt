-- A store once a flush is done: what stands now is the checkpoint, and one layout shows the book of both.
use Rattle.std.specs.Prelude.{◌≡◌, ℕ, List, Option}
use Rattle.slot_codec.specs.Choice as choice
use Rattle.extent_table.specs.Extents.{Spots}
use Rattle.map_model.specs.Maps.{Map}
use Rattle.store_model.specs.Connection.{StoreValue}
use Rattle.store_model.specs.Digested.{digested_book}

-- A store has this slot in use, and these places and digests now and at its checkpoint, in a layout with
-- these capacities and this grid. Of the bytes moved and asked for nothing is said, nor whether the store is
-- broken.
pub record IsFlushed (classes : ℕ) (u : choice.InUse) (now : Spots) (digests : Option Map) (caps : List ℕ)
    (grid : List (List ℕ)) (s : StoreValue) : Type 0 where
  pub in_use : s.in_use ≡ u
  pub same_now : s.now ≡ now
  pub kept : s.kept ≡ now
  pub book : s.book ≡ digested_book classes u.block.k caps grid now digests
  pub kept_book : s.kept_book ≡ digested_book classes u.block.k caps grid now digests
