-- A store and its disk, and what is known of the map that it stands for.
use Rattle.std.specs.Prelude.{◌≡◌, IsTrue}
use Rattle.disk_face.specs.States as disk
use Rattle.map_model.specs.Maps.{Map}
use Rattle.store_model.specs.Sized.{IsSizedBy}
use Rattle.store_model.specs.Connection.{RestsOnTable, StoreValue, base_of, state_of}
use Rattle.store_model.specs.States.{State}

-- a store, and the disk that it stands on
pub record StoreOn : Type 1 where
  pub store : StoreValue
  pub disk : disk.State

abbrev pub store_on : StoreValue → disk.State → StoreOn
store_on store disk = record { store = store; disk = disk }

-- its state: the bytes are those of the content
abbrev pub state_on : StoreOn → State
state_on x = state_of x.store x.disk.file

-- the disk rests on the table of the store's last checkpoint
abbrev pub RestsOn : StoreOn → Type 0
RestsOn x = RestsOnTable (base_of x.store) x.store.kept x.disk

-- A store stands for a map as far as it can be known: its names are those of the map, its objects have their
-- sizes, and on a disk that tells its content the map is that of its state.
pub record StandsFor (x : StoreOn) (m : Map) : Type 0 where
  pub sized : IsSizedBy m x.store.now
  pub told : IsTrue x.disk.tells → (state_on x).map ≡ m
