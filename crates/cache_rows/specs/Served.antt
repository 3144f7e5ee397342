-- A store behind a cache, over its disk.
use Rattle.std.specs.Prelude.{IsTrue}
use Rattle.disk_face.specs.States as disk
use Rattle.size_class.specs.declared.TheConstants.{CLASSES}
use Rattle.store_model.specs.Connection.{IsConnected}
use Rattle.read_cache.specs.CacheValues.{CacheValue}
use Rattle.read_cache.specs.Coherence.{IsCoherent}

-- a cache and its disk, between two requests
pub record MayGoOn (c : CacheValue) (d : disk.State) : Type 0 where
  pub ready : IsTrue d.is_ready
  pub over : IsConnected CLASSES c.store d
  pub coherent : IsCoherent c.store c.list.pairs d
