-- What a put or a del leaves.
use Rattle.std.specs.Prelude.{◌≡◌, ℕ, List, length, Option, Some, None, Result, IsTrue, OnOk}
use Rattle.std.specs.FinMap as fin
use Rattle.disk_face.specs.States as disk
use Rattle.disk_face.specs.Frames.{Calls, Unchanged}
use Rattle.disk_face.specs.Moments.{Leaves}
use Rattle.disk_face.specs.Writes.{KeepsDisk}
use Rattle.size_class.specs.declared.TheConstants.{SIZE_MAX}
use Rattle.map_model.specs.Requests.{Change}
use Rattle.segment_layout.specs.Books.{digests_after}
use Rattle.table_rules.specs.Opening.{Opens}
use Rattle.table_rules.specs.Sequences.{HasSequenceUpTo}
use Rattle.store_model.specs.declared.answers.Refusal.{Refusal}
use Rattle.store_model.specs.Connection.{StoreValue, RestsOnTable, IsKeptImage, base_of, kept_map}
use Rattle.store_model.specs.Digested.{digested_book}
use Rattle.store_model.specs.Quiet.{IsCharged, asked_after, charges_of, quiet_calls}

-- a refusal: nothing changed, and no call of the disk failed
pub record NothingChanged (old new : StoreValue) (before now : disk.State) : Type 0 where
  pub same_store : new ≡ old
  pub same_disk : Unchanged before now
  pub same_faults : now.faults ≡ before.faults

-- The places after a change: without the name, or with the new object where it was charged.
abbrev pub HasChanged : Change → StoreValue → StoreValue → Type 0
HasChanged c old new = of c.object
  where
    of : Option (List ℕ) → Type 0
    of None = new.now ≡ fin.remove old.now c.name
    of (Some object) = (place : ℕ)
        × IsCharged old.in_use.block.k old.book.caps old.book.grid (fin.get old.now c.name) (length object)
        new.book.grid place
        × (new.now ≡ fin.insert old.now c.name (record { place = place; size = length object }))

-- A quiet change changes the places, the book and what was asked for, and nothing else that a store keeps.
-- The book is what the layout shows of the places, once each item is charged, and has the digests after the
-- change.
pub record ChangesQuietly (classes : ℕ) (c : Change) (old new : StoreValue) : Type 0 where
  pub places : HasChanged c old new
  pub rest : new ≡ record old {
    now = new.now;
    book = digested_book classes old.in_use.block.k old.book.caps (charges_of old c).grid new.now
        (digests_after c old.book.digests);
    asked = asked_after old c;
  }

-- What a quiet change does, whether the disk fails or not. The content keeps its length and opens to the last
-- checkpoint, by a table with no greater sequence, and so does all that a crash may leave, where the disk
-- rested on its table; it rests there still.
pub record IsQuietChange {T : Type 0} (classes : ℕ) (c : Change) (old new : StoreValue)
    (before now : disk.State) (result : Result T Refusal) : Type 0 where
  pub value : OnOk result (ChangesQuietly classes c old new)
  pub content : IsTrue before.tells → Opens classes SIZE_MAX now.file (kept_map old before.file) old.kept_book
  pub length : IsTrue before.tells → length now.file ≡ length before.file
  pub sequence : IsTrue before.tells → HasSequenceUpTo old.in_use.sequence now.file
  pub rests : IsTrue before.tells → RestsOnTable (base_of old) old.kept before
      → RestsOnTable (base_of old) old.kept now
  pub left : IsTrue before.tells → RestsOnTable (base_of old) old.kept before
      → Leaves before now (IsKeptImage classes old before.file)
  pub calls : Calls (quiet_calls c) before now result
  pub frame : KeepsDisk before now
