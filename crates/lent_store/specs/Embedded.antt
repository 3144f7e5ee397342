-- A store and the file in memory that it is in, as contracts see them.
use Rattle.std.specs.Prelude.{ℕ, List}
use Rattle.disk_face.specs.States.{State}
use Rattle.size_class.specs.declared.TheConstants.{CLASSES}
use Rattle.lent_disk.specs.Disks.{lent_state}
use Rattle.lent_disk.specs.Notings.{Noting, content, emptied}
use Rattle.store_model.specs.Connection.{StoreValue}
use Rattle.store_model.specs.Halves.{IsReadable}

-- what the store keeps, and the file with the calls on it
pub record Embedded : Type 0 where
  pub store : StoreValue
  pub noting : Noting

-- the file as a disk
abbrev pub disk_of : Embedded → State
disk_of e = lent_state e.noting

-- the same at the begin of a call, as the log is emptied
abbrev pub disk_before : Embedded → State
disk_before e = lent_state (emptied e.noting)

-- what reads give
abbrev pub file_in : Embedded → List ℕ
file_in e = content e.noting

-- what holds of each: the store is over its file, between two requests or between two steps of a flush
abbrev pub IsEmbedded : Embedded → Type 0
IsEmbedded e = IsReadable CLASSES e.store (disk_of e)
