-- What is asked of a desk and its disk before each event.
use Rattle.std.specs.Prelude.{◌≡◌, ℕ, [], false, IsTrue}
use Rattle.disk_face.specs.States as disk
use Rattle.store_model.specs.Connection.{StoreValue}
use Rattle.store_model.specs.Halves.{IsReadable}
use Rattle.desk_queues.specs.Queues.{Holds, no_requests}
use Rattle.desk_core.specs.Benches.{Bench}

-- A desk that may go on: it hasn't ended, its store isn't broken and its objects may be read, over a disk
-- that is ready.
pub record MayGoOn (classes : ℕ) (b : Bench) (d : disk.State) : Type 0 where
  pub ready : IsTrue d.is_ready
  pub over : IsReadable classes b.store d
  pub whole : b.store.is_broken ≡ false
  pub fresh : b.ended ≡ false

-- a desk of a store at which nothing was done
pub record IsNewBench (s : StoreValue) (b : Bench) : Type 0 where
  pub store : b.store ≡ s
  pub ahead : b.ahead ≡ []
  pub queued : Holds b.queued no_requests
  pub fresh : b.ended ≡ false
  pub none : b.events ≡ 0
