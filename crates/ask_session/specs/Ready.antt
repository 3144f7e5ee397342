-- What is asked of a store and its disk, and of a session, before each request.
use Rattle.std.specs.Prelude.{◌≡◌, ℕ, ◌≤◌, false, None, IsTrue}
use Rattle.disk_face.specs.Counts.{last}
use Rattle.disk_face.specs.States as disk
use Rattle.store_model.specs.Connection.{IsConnected, IsOver, StoreValue}
use Rattle.store_model.specs.Halves.{IsReadable}
use Rattle.store_model.specs.Stores.{IsStanding, IsStore}
use Rattle.ask_session.specs.Sittings.{Sitting}

-- A store that isn't broken and has no flush in hand, over a disk that is ready.
pub record CanServe (classes : ℕ) (s : StoreValue) (d : disk.State) : Type 0 where
  pub whole : s.is_broken ≡ false
  pub idle : s.in_hand ≡ None
  pub sound : IsStore classes s
  pub over : IsTrue d.tells → IsOver classes s d.file
  pub ready : IsTrue d.is_ready
  pub fits : d.turn ≤ last

-- A store that isn't broken, over a disk that is ready, whose objects may be read: between two requests, or
-- between two steps of a flush.
pub record CanRead (classes : ℕ) (s : StoreValue) (d : disk.State) : Type 0 where
  pub whole : s.is_broken ≡ false
  pub stands : IsStanding s
  pub sound : s.in_hand ≡ None → IsStore classes s
  pub readable : IsReadable classes s d
  pub ready : IsTrue d.is_ready

-- A session that may go on: it hasn't ended, and its store isn't broken and is connected to a disk that is
-- ready.
pub record MayGoOn (classes : ℕ) (s : Sitting) (d : disk.State) : Type 0 where
  pub ready : IsTrue d.is_ready
  pub over : IsConnected classes s.store d
  pub whole : s.store.is_broken ≡ false
  pub fresh : s.ended ≡ false
