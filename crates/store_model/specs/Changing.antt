-- What a put or a removal does, whether it is refused, quiet, or made with a flush.
use Rattle.std.specs.Prelude.{◌≡◌, ℕ, true, false, ◌||◌, Result, IsNone, IsSome}
use Rattle.disk_face.specs.States as disk
use Rattle.map_model.specs.Requests as ask
use Rattle.map_model.specs.Requests.{Change}
use Rattle.segment_layout.specs.Books.{is_quiet}
use Rattle.store_model.specs.declared.answers.Refusal.{Refusal}
use Rattle.store_model.specs.declared.answers.Done.{Done}
use Rattle.store_model.specs.Answers.{AnswersChange, is_disk_fault, refused_by}
use Rattle.store_model.specs.Changes.{IsQuietChange, NothingChanged}
use Rattle.store_model.specs.Connection.{IsConnected, StoreValue}
use Rattle.store_model.specs.Flushes.{IsFlush}
use Rattle.store_model.specs.Quiet.{charges_of}

-- A put or a removal answers the first refusal that applies, and then nothing changed. Else it is quiet, or a
-- flush makes it: which of the two is known before. A store that isn't broken is over its disk, and it is
-- broken where the disk failed.
pub record IsChange (classes : ℕ) (c : Change) (old new : StoreValue) (before now : disk.State)
    (result : Result Done Refusal) : Type 0 where
  pub answer : AnswersChange (is_quiet (charges_of old c)) (refused_by old (ask.change c)) result
  pub refused : IsSome (refused_by old (ask.change c)) → NothingChanged old new before now
  pub quiet : IsNone (refused_by old (ask.change c)) → is_quiet (charges_of old c) ≡ true
      → IsQuietChange classes c old new before now result
  pub flush : IsNone (refused_by old (ask.change c)) → is_quiet (charges_of old c) ≡ false
      → IsFlush classes c old new before now result
  pub over : IsConnected classes new now
  pub broken : new.is_broken ≡ (old.is_broken || is_disk_fault result)
