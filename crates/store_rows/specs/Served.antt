-- A store over its disk.
use Rattle.std.specs.Prelude.{IsTrue}
use Rattle.size_class.specs.declared.TheConstants.{CLASSES}
use Rattle.disk_face.specs.States as disk
use Rattle.store_model.specs.Connection.{IsConnected, StoreValue}
use Rattle.store_model.specs.Halves.{IsReadable}

-- a store and its disk, between two requests
pub record MayServe (s : StoreValue) (d : disk.State) : Type 0 where
  pub ready : IsTrue d.is_ready
  pub tells : IsTrue d.tells
  pub over : IsConnected CLASSES s d

-- the same of any disk, where a flush may be in hand
pub record MayStep (s : StoreValue) (d : disk.State) : Type 0 where
  pub ready : IsTrue d.is_ready
  pub over : IsReadable CLASSES s d
