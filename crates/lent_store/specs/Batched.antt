-- A store and its file as a batch sees them, and what a crash leaves of one.
use Rattle.std.specs.Prelude.{ℕ, List}
use Rattle.size_class.specs.declared.TheConstants.{CLASSES}
use Rattle.map_model.specs.Requests.{Change}
use Rattle.batch_core.specs.Answers.{applied_to, kept_batch}
use Rattle.batch_core.specs.Doing.{Batch, IsBatchMap}
use Rattle.batch_core.specs.Going.{IsLeft}
use Rattle.batch_core.specs.StoresOn.{StoreOn, store_on}
use Rattle.lent_store.specs.Embedded.{Embedded, disk_before, disk_of}

-- as a call begins, and as it has ended
abbrev pub begun_on : Embedded → StoreOn
begun_on e = store_on e.store (disk_before e)

abbrev pub ended_on : Embedded → StoreOn
ended_on e = store_on e.store (disk_of e)

-- an image opens to the last checkpoint, or to a map of a batch that is being done
abbrev pub IsBatchImage : Batch → Embedded → List ℕ → Type 0
IsBatchImage b e image = IsLeft CLASSES (IsBatchMap b) (begun_on e) image

-- the batch of a text, and the one that is kept
abbrev pub batch_for : Embedded → List ℕ → List Change → Batch
batch_for e text changes = applied_to (begun_on e) text changes

abbrev pub batch_kept : Embedded → List Change → Batch
batch_kept e changes = kept_batch (begun_on e) changes
