-- What is listed is what the store would answer.
use Rattle.std.specs.Prelude.{◌≡◌, false, List, length, IsTrue}
use Rattle.std.specs.FinMap as fin
use Rattle.std.specs.List.{AllByRecursion}
use Rattle.disk_face.specs.States as disk
use Rattle.map_model.specs.Requests as ask
use Rattle.store_model.specs.Answers.{size_at}
use Rattle.store_model.specs.Connection.{StoreValue, limits_of, state_of}
use Rattle.store_model.specs.States.{served}
use Rattle.read_cache.specs.Lists.{Pair}

-- A pair of a name and bytes: the store answers a get of the name with these bytes. On a disk that doesn't
-- tell its content it is known that they are as many as the name's object has.
pub record IsHeld (s : StoreValue) (d : disk.State) (e : Pair) : Type 0 where
  pub long : length e.1 ≡ size_at (fin.get s.now e.0)
  pub answered : IsTrue d.tells
      → (served (limits_of s) (state_of s d.file) (ask.get e.0)).reply ≡ ask.found e.1

-- each pair of a list is so, where the store isn't broken
abbrev pub IsCoherent : StoreValue → List Pair → disk.State → Type 0
IsCoherent s pairs d = s.is_broken ≡ false → AllByRecursion (IsHeld s d) pairs
