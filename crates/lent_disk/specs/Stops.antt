-- What a crash leaves of a file on which the calls of a log are made in order, wherever that stops.
use Rattle.std.specs.Prelude.{◌⊎◌, ℕ, List, [], ◌∷◌}
use Rattle.disk_face.specs.Images.{Unsynced, IsImage}
use Rattle.disk_history.specs.Changes.{RecordedCall, during, left_by}
use Rattle.disk_history.specs.Histories.{History, file_of, unsynced_of}
use Rattle.lent_disk.specs.Calls.{replayed}

-- what stands unsynced once these calls were made, the newest first, after a history
abbrev pub unsynced_on : History → List RecordedCall → Unsynced
unsynced_on h [] = unsynced_of h
unsynced_on h (call ∷ earlier) = left_by call (replayed earlier (file_of h)) (unsynced_on h earlier)

-- a crash may leave this image before, within or after one of the calls
abbrev pub IsStopped : History → List RecordedCall → List ℕ → Type 0
IsStopped h [] image = IsImage (unsynced_of h) image
IsStopped h (call ∷ earlier) image = IsImage (unsynced_on h (call ∷ earlier)) image
    ⊎ IsImage (during call (unsynced_on h earlier)) image ⊎ IsStopped h earlier image
