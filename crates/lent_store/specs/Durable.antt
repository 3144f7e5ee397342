-- What is durable in a store over a file in memory, if the whole log of each call is made before the next.
use Rattle.std.specs.Prelude.{◌≡◌, ℕ, List}
use Rattle.size_class.specs.declared.TheConstants.{CLASSES, SIZE_MAX}
use Rattle.disk_face.specs.Images.{IsImage}
use Rattle.disk_history.specs.Changes.{RecordedCall}
use Rattle.disk_history.specs.Histories.{History, MayLeave}
use Rattle.lent_disk.specs.Calls.{FitEntries, text_of}
use Rattle.lent_disk.specs.Stops.{IsStopped, unsynced_on}
use Rattle.map_model.specs.Maps.{Map}
use Rattle.segment_layout.specs.Books.{Book, version_of}
use Rattle.table_rules.specs.Opening.{Opens}
use Rattle.store_model.specs.Connection.{kept_map}
use Rattle.batch_core.specs.Doing.{Batch, IsBatchMap}
use Rattle.batch_core.specs.Making.{OpensAs}
use Rattle.lent_store.specs.Embedded.{Embedded, file_in}
use Rattle.lent_store.specs.Noted.{RestsOnKept}

-- an image opens to this map and this book
abbrev pub OpensTo : Map → Book → List ℕ → Type 0
OpensTo m b image = Opens CLASSES SIZE_MAX image m b

-- A map is durable in a store, with its book: it is that of the last checkpoint, the store rests on that, and
-- each image that a crash may leave now opens to it.
pub record IsDurable (m : Map) (b : Book) (e : Embedded) : Type 0 where
  pub checkpoint : kept_map e.store (file_in e) ≡ m
  pub accounts : e.store.kept_book ≡ b
  pub rests : RestsOnKept e
  pub images : (image : List ℕ) → MayLeave e.noting.history image → OpensTo m b image

-- an image opens to a map of a batch that is being done, with a book of the version of the store's
abbrev pub OpensWithin : Batch → Embedded → List ℕ → Type 0
OpensWithin batch e image =
    (m : Map) × IsBatchMap batch m × OpensAs CLASSES (version_of e.store.book) m image

-- Once all the calls were made that a text spells, after a history of the file, an image has P. It is no
-- matter by which calls the text is spelled.
abbrev pub OnceMade : History → List ℕ → (List ℕ → Type 0) → Type 0
OnceMade start text P = (calls : List RecordedCall) (image : List ℕ) → text ≡ text_of calls
    → FitEntries calls → IsImage (unsynced_on start calls) image → P image

-- the same wherever the making of the calls stops
abbrev pub WhereverStopped : History → List ℕ → (List ℕ → Type 0) → Type 0
WhereverStopped start text P = (calls : List RecordedCall) (image : List ℕ) → text ≡ text_of calls
    → FitEntries calls → IsStopped start calls image → P image
