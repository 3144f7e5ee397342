-- What the contracts of the calls that change a store say of it and of the disk, before and after.
use Rattle.std.specs.Prelude.{◌≡◌, ◌⊎◌, ℕ, false, List, [], ◌∷◌, length, Result}
use Rattle.disk_face.specs.States as disk
use Rattle.size_class.specs.Classes.{width}
use Rattle.map_model.specs.Requests.{Change}
use Rattle.store_model.specs.declared.answers.Refusal.{Refusal}
use Rattle.store_model.specs.declared.answers.Done.{Done}
use Rattle.store_model.specs.Answers.{is_disk_fault}
use Rattle.store_model.specs.Changing.{IsChange}
use Rattle.store_model.specs.Connection.{StoreValue}
use Rattle.store_model.specs.Keeps.{IsKeep}
use Rattle.store_model.specs.Stores.{IsStore}
use Rattle.store_costs.specs.Paid.{HasOpenLedger}

-- a store is sound unless it is broken
abbrev pub IsSound : ℕ → StoreValue → Type 0
IsSound classes s = s.is_broken ≡ false → IsStore classes s

-- A put or a removal of a sound store in which the disk didn't fail, and which the ledger counts: it has a
-- number for each class, and none stands at its last value.
pub record IsCounted (classes : ℕ) (c : Change) (old new : StoreValue) (before now : disk.State)
    (result : Result Done Refusal) : Type 0 where
  pub call : IsChange classes c old new before now result
  pub fine : is_disk_fault result ≡ false
  pub sound : IsSound classes old
  pub full : length old.asked ≡ width
  pub counts : HasOpenLedger new

-- what going back makes of a store
abbrev pub gone_back : StoreValue → StoreValue
gone_back s = record s { now = s.kept; book = s.kept_book }

-- ---- sessions, of a store with disks that each have a state

-- a put or a removal, on any disk
pub record Changes {D : Type 0} (state : D → disk.State) (classes : ℕ) (old new : StoreValue) : Type 0 where
  pub c : Change
  pub before : D
  pub now : D
  pub result : Result Done Refusal
  pub counted : IsCounted classes c old new (state before) (state now) result

-- a keep
pub record Keeps {D : Type 0} (state : D → disk.State) (classes : ℕ) (old new : StoreValue) : Type 0 where
  pub before : D
  pub now : D
  pub result : Result Done Refusal
  pub call : IsKeep classes old new (state before) (state now) result

-- going back, by a sound store
pub record GoesBack (classes : ℕ) (old new : StoreValue) : Type 0 where
  pub store : IsStore classes old
  pub back : new ≡ gone_back old

-- a call of a store: a put or a removal, a keep, going back, or one that leaves the store
abbrev pub IsCall : {D : Type 0} → (D → disk.State) → ℕ → StoreValue → StoreValue → Type 0
IsCall state classes old new = Changes state classes old new ⊎ Keeps state classes old new
    ⊎ GoesBack classes old new ⊎ (new ≡ old)

-- one call after another, with the store after each
abbrev pub Session : {D : Type 0} → (D → disk.State) → ℕ → StoreValue → List StoreValue → StoreValue → Type 0
Session state classes s [] t = t ≡ s
Session state classes s (mid ∷ rest) t = IsCall state classes s mid × Session state classes mid rest t
