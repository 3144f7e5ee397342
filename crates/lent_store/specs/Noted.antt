-- What a call notes, and what a crash leaves where the calls that it noted are made on the file and that
-- stops.
use Rattle.std.specs.Prelude.{◌⊎◌, ◌≡◌, ◌<◌, ℕ, List}
use Rattle.size_class.specs.declared.TheConstants.{CLASSES}
use Rattle.disk_history.specs.Changes.{RecordedCall}
use Rattle.disk_history.specs.Histories.{EndedBy, MayLeave, fresh}
use Rattle.lent_disk.specs.Calls.{FitEntries, text_of}
use Rattle.lent_disk.specs.Notings.{IsLog, LacksSpace}
use Rattle.lent_disk.specs.Stops.{IsStopped}
use Rattle.map_model.specs.Requests.{Change}
use Rattle.store_model.specs.Flushes.{IsFlushImage}
use Rattle.store_model.specs.Connection.{IsKeptImage, RestsOnTable, base_of}
use Rattle.lent_store.specs.Embedded.{Embedded, disk_of, file_in}

-- The log of a call spells the calls that made its file of the one before. Where one failed there wasn't room
-- for those that it asked for.
pub record IsNoted (old new : Embedded) : Type 0 where
  pub log : IsLog old.noting.history new.noting.history new.noting.text
  pub ended : EndedBy new.noting.history.turn new.noting.history.calls
  pub cause : old.noting.history.faults < new.noting.history.faults → LacksSpace new.noting

-- the log of a store that was opened or made spells the calls that made its file of one that was at rest
pub record IsNotedOf (file : List ℕ) (s : Embedded) : Type 0 where
  pub log : IsLog (fresh file) s.noting.history s.noting.text
  pub ended : EndedBy s.noting.history.turn s.noting.history.calls

-- the disk rests on the table of the last checkpoint
abbrev pub RestsOnKept : Embedded → Type 0
RestsOnKept e = RestsOnTable (base_of e.store) e.store.kept (disk_of e)

-- An image that a put or a removal leaves: it opens to the last checkpoint, or to that or what stands after.
abbrev pub IsChangeImage : Change → Embedded → List ℕ → Type 0
IsChangeImage c e image =
    IsKeptImage CLASSES e.store (file_in e) image ⊎ IsFlushImage CLASSES e.store c (file_in e) image

-- Wherever the making of the calls stops, an image was one before the call, or has P. It is no matter by
-- which calls the text is spelled.
abbrev pub StopsAt : Embedded → Embedded → (List ℕ → Type 0) → Type 0
StopsAt old new P = (calls : List RecordedCall) (image : List ℕ) → new.noting.text ≡ text_of calls
    → FitEntries calls → IsStopped old.noting.history calls image
    → MayLeave old.noting.history image ⊎ P image

-- Wherever the making of the calls of a store that was opened or made stops, on a file of these bytes that
-- was at rest, an image has P.
abbrev pub StopsFrom : List ℕ → (List ℕ → Type 0) → Embedded → Type 0
StopsFrom file P s = (calls : List RecordedCall) (image : List ℕ) → s.noting.text ≡ text_of calls
    → FitEntries calls → IsStopped (fresh file) calls image → P image
