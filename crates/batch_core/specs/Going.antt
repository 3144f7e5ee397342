-- Requests of a batch that a store has made one after another, and what was left meanwhile.
use Rattle.std.specs.Prelude.{◌≡◌, ◌⊎◌, ℕ, ◌+◌, ◌*◌, ◌^◌, ◌≤◌, max, true, false, List, None, IsTrue}
use Rattle.disk_face.specs.Counts.{Rose}
use Rattle.disk_face.specs.Moments.{Leaves}
use Rattle.disk_face.specs.Writes.{KeepsDisk}
use Rattle.map_model.specs.Maps.{Map}
use Rattle.map_model.specs.Requests.{Reply, Request}
use Rattle.segment_layout.specs.Books.{version_of}
use Rattle.table_rules.specs.Sequences.{HasSequenceUpTo}
use Rattle.store_model.specs.Connection.{IsConnected, limits_of}
use Rattle.store_model.specs.States.{Run}
use Rattle.store_model.specs.Stores.{IsStore}
use Rattle.batch_core.specs.Making.{OpensAs, OpensToLast, most_raised}
use Rattle.batch_core.specs.StoresOn.{RestsOn, StandsFor, StoreOn, state_on}

-- the sequence of a store, or the one from which on it refuses, if that is greater
abbrev pub most_after : StoreOn → ℕ
most_after x = max x.store.in_use.sequence (2 ^ 61)

-- An image opens to the last checkpoint of a store, or to such a map and a book of the version of the
-- store's, by a table with at most that sequence.
pub record IsLeft (classes : ℕ) (Such : Map → Type 0) (x : StoreOn) (image : List ℕ) : Type 0 where
  pub opens : OpensToLast classes x image
      ⊎ ((m : Map) × Such m × OpensAs classes (version_of x.store.book) m image)
  pub sequence : HasSequenceUpTo (most_after x) image

-- The last checkpoint is the one before, or is of such a map, with a book of the version before.
abbrev pub KeepsSuch : (Map → Type 0) → StoreOn → StoreOn → Type 0
KeepsSuch Such old new = (((state_on new).kept ≡ (state_on old).kept)
    × (new.store.kept_book ≡ old.store.kept_book))
    ⊎ (Such (state_on new).kept × (version_of new.store.kept_book ≡ version_of old.store.book))

-- These requests were made, of which so many raised the sequence, and the store stands for this map.
pub record Going : Type 0 where
  pub requests : List Request
  pub made : ℕ
  pub map : Map

-- A store made requests one after another. Each image left meanwhile, and each checkpoint, is of such a map
-- or is the one before.
pub record Goes (classes : ℕ) (Such : Map → Type 0) (old new : StoreOn) (g : Going) : Type 0 where
  pub ran : IsTrue old.disk.tells
      → (replies : List Reply) × Run (limits_of old.store) (state_on old) g.requests replies (state_on new)
  pub stands : StandsFor new g.map
  pub kept : IsTrue old.disk.tells → KeepsSuch Such old new
  pub rests : IsTrue old.disk.tells → RestsOn old → RestsOn new
  pub left : IsTrue old.disk.tells → RestsOn old → Leaves old.disk new.disk (IsLeft classes Such old)
  pub block : new.store.in_use.block ≡ old.store.in_use.block
  pub version : version_of new.store.book ≡ version_of old.store.book
  pub reach : new.store.in_use.sequence ≤ old.store.in_use.sequence + most_raised * g.made
  pub most : new.store.in_use.sequence ≤ most_after old
  pub unbroken : new.store.is_broken ≡ false
  pub sound : IsStore classes new.store
  pub over : IsConnected classes new.store new.disk
  pub calm : new.disk.faults ≡ old.disk.faults
  pub frame : KeepsDisk old.disk new.disk

-- The disk failed after some of them. The content is one of those images too.
pub record Stops (classes : ℕ) (Such : Map → Type 0) (old new : StoreOn) : Type 0 where
  pub left : IsTrue old.disk.tells → RestsOn old → Leaves old.disk new.disk (IsLeft classes Such old)
  pub content : IsTrue old.disk.tells → IsLeft classes Such old new.disk.file
  pub broken : new.store.is_broken ≡ true
  pub idle : new.store.in_hand ≡ None
  pub rose : Rose old.disk.faults new.disk.faults
  pub later : old.disk.faults ≤ new.disk.faults
  pub frame : KeepsDisk old.disk new.disk
