-- A range of a file that is copied in pieces to another that shares no byte with it.
use Rattle.std.specs.Prelude.{◌≡◌, ◌⊎◌, ℕ, ◌+◌, ◌^◌, ◌<◌, ◌≤◌, length, IsTrue, OnOk, Result}
use Rattle.byte_ranges.specs.Ranges.{bytes_at, overwritten}
use Rattle.disk_face.specs.Counts.{HasCause, counted}
use Rattle.disk_face.specs.States.{State}
use Rattle.disk_face.specs.Writes.{WritesWithin}
use Rattle.data_area.specs.Pieces.{HasMade, pieces}

-- A range may be copied to another in pieces of a buffer of so many bytes: both end below 2^63, they share no
-- byte, and both lie within the file where it is told.
pub record CanCopy (from to size len : ℕ) (d : State) : Type 0 where
  pub some : 0 < len
  pub source : from + size < 2 ^ 63
  pub target : to + size < 2 ^ 63
  pub apart : (from + size ≤ to) ⊎ (to + size ≤ from)
  pub from_within : IsTrue d.tells → from + size ≤ length d.file
  pub to_within : IsTrue d.tells → to + size ≤ length d.file

-- A copy makes one changing call for each piece, or fewer where one failed, and an error has its cause.
pub record CopyCalls {T E : Type 0} (size len : ℕ) (old new : State) (result : Result T E) : Type 0 where
  pub all : 0 < size → OnOk result (new.turn ≡ counted old.turn (pieces len size))
  pub most : new.turn ≤ counted old.turn (pieces len size)
  pub cause : HasCause old.faults new.faults result

-- the first bytes of a range are copied, no call failed, and nothing outside the target was written
pub record CopiedSoFar (from to size len done : ℕ) (first now : State) : Type 0 where
  pub writes : WritesWithin to size first now
  pub copied : IsTrue first.tells → now.file ≡ overwritten first.file to (bytes_at first.file from done)
  pub calm : now.faults ≡ first.faults
  pub upto : done ≤ size
  pub made : HasMade first.turn now.turn len size done
