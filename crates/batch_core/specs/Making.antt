-- What one request of a batch does: a put, a removal, or a keep.
use Rattle.std.specs.Prelude.{◌≡◌, ◌≢◌, ◌⊎◌, ℕ, ◌+◌, ◌*◌, ◌≤◌, List, Some, None, Result, Ok, Err, IsOk, is_err, IsTrue, OnOk}
use Rattle.disk_face.specs.Counts.{HasCause}
use Rattle.disk_face.specs.Moments.{Leaves}
use Rattle.disk_face.specs.Writes.{KeepsDisk}
use Rattle.size_class.specs.declared.TheConstants.{SIZE_MAX}
use Rattle.map_model.specs.Maps.{Map}
use Rattle.map_model.specs.Requests as ask
use Rattle.map_model.specs.Requests.{Change, Reply, Request, changed}
use Rattle.segment_layout.specs.Books.{Book, version_of}
use Rattle.table_rules.specs.Opening.{Opens}
use Rattle.table_rules.specs.Sequences.{HasSequenceUpTo}
use Rattle.store_model.specs.Answers.{refused_by}
use Rattle.store_model.specs.declared.answers.Done.{Done}
use Rattle.store_model.specs.declared.answers.Refusal.{Refusal}
use Rattle.store_model.specs.declared.answers.Refusal.TheVariants as why
use Rattle.store_model.specs.Connection.{IsConnected, StoreValue, kept_map, limits_of}
use Rattle.store_model.specs.States.{Step}
use Rattle.store_model.specs.Stores.{IsStore}
use Rattle.batch_model.specs.Fits.{made_by}
use Rattle.batch_core.specs.StoresOn.{RestsOn, StandsFor, StoreOn, state_on}

-- no request raises the sequence by more
abbrev pub most_raised : ℕ
most_raised = 129

-- the map after a request of a batch
abbrev pub left_by : Request → Map → Map
left_by (ask.change c) m = changed c m
left_by _ m = m

-- one for a request that may raise it: not for the removal of a name that isn't there
abbrev pub raised_by : Request → Map → ℕ
raised_by (ask.change c) m = made_by m c
raised_by _ m = 1

-- an image opens to this map, and to a book of this version
pub record OpensAs (classes version : ℕ) (m : Map) (image : List ℕ) : Type 0 where
  pub book : Book
  pub opens : Opens classes SIZE_MAX image m book
  pub same_version : version_of book ≡ version

-- an image opens to the last checkpoint of a store
abbrev pub OpensToLast : ℕ → StoreOn → List ℕ → Type 0
OpensToLast classes x image = Opens classes SIZE_MAX image (kept_map x.store x.disk.file) x.store.kept_book

-- The last checkpoint is the one before, or is of this map, with a book of the version before.
abbrev pub KeepsOr : Map → StoreOn → StoreOn → Type 0
KeepsOr m old new = (((state_on new).kept ≡ (state_on old).kept)
    × (new.store.kept_book ≡ old.store.kept_book))
    ⊎ (((state_on new).kept ≡ m) × (version_of new.store.kept_book ≡ version_of old.store.book))

-- A request was done by a store that stood for a map: it is a step, and the store stands for the map after.
pub record IsDone (classes : ℕ) (r : Request) (old new : StoreOn) (m : Map) : Type 0 where
  pub step : IsTrue old.disk.tells
      → (reply : Reply) × Step (limits_of old.store) (state_on old) r reply (state_on new)
  pub stands : StandsFor new (left_by r m)
  pub kept : IsTrue old.disk.tells → KeepsOr (left_by r m) old new
  pub rests : IsTrue old.disk.tells → RestsOn old → RestsOn new
  pub block : new.store.in_use.block ≡ old.store.in_use.block
  pub version : version_of new.store.book ≡ version_of old.store.book
  pub reach : new.store.in_use.sequence ≤ old.store.in_use.sequence + most_raised * raised_by r m
  pub sound : IsStore classes new.store

-- What is left meanwhile opens to the last checkpoint, or to the map after the request, by a table with a
-- sequence that the request may raise it to.
pub record IsMakingImage (classes : ℕ) (old : StoreOn) (m : Map) (image : List ℕ) : Type 0 where
  pub opens : OpensToLast classes old image ⊎ OpensAs classes (version_of old.store.book) m image
  pub sequence : HasSequenceUpTo (old.store.in_use.sequence + most_raised) image

-- A request was made by a store that stands for a map, whether the disk fails or not.
pub record Makes {T E : Type 0} (classes : ℕ) (r : Request) (old new : StoreOn) (m : Map)
    (result : Result T E) : Type 0 where
  pub done : OnOk result (IsDone classes r old new m)
  pub left : IsTrue old.disk.tells → RestsOn old
      → Leaves old.disk new.disk (IsMakingImage classes old (left_by r m))
  pub content : IsTrue old.disk.tells → IsMakingImage classes old (left_by r m) new.disk.file
  pub over : IsConnected classes new.store new.disk
  pub broken : new.store.is_broken ≡ is_err result
  pub cause : HasCause old.disk.faults new.disk.faults result
  pub frame : KeepsDisk old.disk new.disk

-- a request was made by an answer of the store: it was done, or a removal found nothing
abbrev pub IsDoneAs : {T E : Type 0} → Result Done Refusal → Result T E → Type 0
IsDoneAs answer (Ok x) = IsOk answer ⊎ (answer ≡ Err why.Missing)
IsDoneAs answer (Err e) = (w : Refusal) × (answer ≡ Err w) × (w ≢ why.Missing)

-- nothing but the disk refuses the request; a removal may be of a name that isn't there
abbrev pub CanMake : StoreValue → Request → Type 0
CanMake s r = (refused_by s r ≡ None) ⊎ (refused_by s r ≡ Some why.Missing)
