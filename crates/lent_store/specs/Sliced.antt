-- A change over a file in memory that is begun, and whose flush is made by steps. Each of these calls empties
-- the log first, and that alone tells its disk from the disk that the call before has left.
use Rattle.std.specs.Prelude.{◌≡◌, false, List, [], ◌∷◌, None, Result, Ok, IsTrue}
use Rattle.disk_face.specs.States.{State}
use Rattle.size_class.specs.declared.TheConstants.{CLASSES}
use Rattle.lent_disk.specs.Disks.{lent_state}
use Rattle.lent_disk.specs.Notings.{Noting}
use Rattle.map_model.specs.Requests.{Change}
use Rattle.store_model.specs.declared.answers.Begun.TheVariants as begun
use Rattle.store_model.specs.declared.answers.Progress.{Progress}
use Rattle.store_model.specs.declared.answers.Progress.TheVariants as progress
use Rattle.store_model.specs.declared.answers.Refusal.{Refusal}
use Rattle.store_model.specs.Begins.{BeginsChange}
use Rattle.store_model.specs.Steps.{IsStep}
use Rattle.store_model.specs.Connection.{IsConnected}
use Rattle.store_model.specs.Stores.{IsStore}
use Rattle.sliced_laws.specs.Sliced.{is_last}
use Rattle.lent_store.specs.Embedded.{Embedded, disk_before, disk_of}

-- the file as a disk that doesn't say where its log starts
abbrev pub file_state : Noting → State
file_state n = record (lent_state n) { last_mount = None }

-- one step after another moved an object, and these were left
abbrev pub GoesBySteps : Embedded → List Embedded → Embedded → Type 0
GoesBySteps a [] b = b ≡ a
GoesBySteps a (next ∷ rest) b =
    IsStep CLASSES a.store next.store (disk_before a) (disk_of next) (Ok progress.Moved)
    × GoesBySteps next rest b

-- A change was begun in a sound store over its file. It wasn't quiet, and its flush was made by steps until
-- one answered that what stands was settled, or that the disk failed.
pub record IsMadeBySteps (c : Change) (old new : Embedded) (result : Result Progress Refusal) : Type 0 where
  pub over : IsConnected CLASSES old.store (disk_of old)
  pub sound : old.store.is_broken ≡ false → IsStore CLASSES old.store
  pub first : Embedded
  pub begins : BeginsChange CLASSES c old.store first.store (disk_before old) (disk_of first)
      (Ok begun.InHand)
  pub moved : List Embedded
  pub last : Embedded
  pub goes : GoesBySteps first moved last
  pub ends : IsStep CLASSES last.store new.store (disk_before last) (disk_of new) result
  pub is_end : IsTrue (is_last result)
