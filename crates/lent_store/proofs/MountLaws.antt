-- The last mount of a disk stays over each call of a store.
use Rattle.std.proofs.Common.{◌≡◌, ℕ}
use Rattle.std.specs.Prelude.{None, IsSome, IsNone, Result}
use Rattle.disk_face.specs.States as disk
use Rattle.map_model.specs.Requests as ask
use Rattle.map_model.specs.Requests.{Change}
use Rattle.segment_layout.specs.Books.{is_quiet}
use Rattle.store_model.specs.declared.answers.Begun.{Begun}
use Rattle.store_model.specs.declared.answers.Done.{Done}
use Rattle.store_model.specs.declared.answers.Refusal.{Refusal}
use Rattle.store_model.specs.Answers.{refused_by}
use Rattle.store_model.specs.Begins.{BeginsChange}
use Rattle.store_model.specs.Changes.{NothingChanged}
use Rattle.store_model.specs.Changing.{IsChange}
use Rattle.store_model.specs.Keeps.{KeepsNow}
use Rattle.store_model.specs.Connection.{StoreValue}
use Rattle.store_model.specs.Upgrades.{Upgrades, idle_answer}
use Rattle.store_model.specs.Quiet.{charges_of}
use Rattle.lent_store.proofs.Cases.{by_cases, by_bool, by_option}

module _ {classes : ℕ} {old new : StoreValue} {before now : disk.State} where
  pub change_mount : {c : Change} {result : Result Done Refusal}
      → IsChange classes c old new before now result
      → now.last_mount ≡ before.last_mount
  change_mount {c} is = by_cases (refused_by old (ask.change c))
      (λ h. (is.refused h).same_disk.stays.same_mount)
      (λ h. by_bool (is_quiet (charges_of old c)) (λ q. (is.quiet h q).frame.stays.same_mount)
      (λ q. (is.flush h q).frame.stays.same_mount))

  pub begin_mount : {c : Change} {result : Result Begun Refusal}
      → BeginsChange classes c old new before now result → now.last_mount ≡ before.last_mount
  begin_mount {c} is = by_cases (refused_by old (ask.change c))
      (λ h. (is.refused h).same_disk.stays.same_mount)
      (λ h. by_bool (is_quiet (charges_of old c)) (λ q. (is.quiet h q).frame.stays.same_mount)
      (λ q. (is.flush h q).frame.stays.same_mount))

  pub keep_mount : {result : Result Done Refusal}
      → (IsSome (refused_by old ask.keep) → NothingChanged old new before now)
      → (IsNone (refused_by old ask.keep) → KeepsNow classes old new before now result)
      → now.last_mount ≡ before.last_mount
  keep_mount refused kept = by_cases (refused_by old ask.keep) (λ h. (refused h).same_disk.stays.same_mount)
      (λ h. (kept h).frame.stays.same_mount)

  pub upgrade_mount : {result : Result Done Refusal} → (IsSome (idle_answer old) → NothingChanged old new before now)
      → (idle_answer old ≡ None → Upgrades classes old new before now result)
      → now.last_mount ≡ before.last_mount
  upgrade_mount idle upgrades = by_option (idle_answer old) (λ h. (idle h).same_disk.stays.same_mount)
      (λ none. (upgrades none).frame.stays.same_mount)
