-- What an upgrade does to a store over a file in memory, and what a crash leaves of it.
use Rattle.std.specs.Prelude.{◌≡◌, ◌||◌, ℕ, List, None, IsSome, Result}
use Rattle.size_class.specs.declared.TheConstants.{CLASSES}
use Rattle.store_model.specs.declared.answers.Done.{Done}
use Rattle.store_model.specs.declared.answers.Refusal.{Refusal}
use Rattle.store_model.specs.Answers.{is_disk_fault}
use Rattle.store_model.specs.Changes.{NothingChanged}
use Rattle.store_model.specs.Keeps.{OpensToKeptOrNow}
use Rattle.store_model.specs.Upgrades.{AnswersUpgrade, Upgrades, digests_now, idle_answer, upgraded}
use Rattle.lent_store.specs.Embedded.{Embedded, disk_before, disk_of, file_in}

-- it does nothing, with an answer that is known before, or gives each object its digest
pub record IsUpgraded (old new : Embedded) (result : Result Done Refusal) : Type 0 where
  pub answer : AnswersUpgrade (idle_answer old.store) result
  pub idle : IsSome (idle_answer old.store)
      → NothingChanged old.store new.store (disk_before old) (disk_of new)
  pub upgrades : idle_answer old.store ≡ None
      → Upgrades CLASSES old.store new.store (disk_before old) (disk_of new) result
  pub broken : new.store.is_broken ≡ (old.store.is_broken || is_disk_fault result)

-- an image that it leaves: it opens to the last checkpoint, or to what stands now with its digests
abbrev pub IsUpgradeImage : Embedded → List ℕ → Type 0
IsUpgradeImage e image =
    OpensToKeptOrNow CLASSES (upgraded e.store (digests_now e.store (file_in e))) (file_in e) image
