-- A change that is begun, and whose flush is made one step at a time, with reads between the steps.
use Rattle.std.specs.Prelude.{◌≡◌, ℕ, ◌+◌, ◌≤◌, Bool, true, false, if◌then◌else◌, List, [], ◌∷◌, Some, Result, Ok, Err, IsTrue}
use Rattle.disk_face.specs.Counts.{HasCause}
use Rattle.disk_face.specs.States as disk
use Rattle.disk_face.specs.Writes.{KeepsDisk}
use Rattle.map_model.specs.Requests.{Change}
use Rattle.store_model.specs.declared.answers.Begun.TheVariants as begun
use Rattle.store_model.specs.declared.answers.Done.{Done}
use Rattle.store_model.specs.declared.answers.Progress.{Progress}
use Rattle.store_model.specs.declared.answers.Progress.TheVariants as progress
use Rattle.store_model.specs.declared.answers.Refusal.{Refusal}
use Rattle.store_model.specs.Answers.{is_disk_fault}
use Rattle.store_model.specs.Begins.{BeginsChange}
use Rattle.store_model.specs.Changes.{NothingChanged}
use Rattle.store_model.specs.Steps.{IsStep}
use Rattle.store_model.specs.Connection.{FlushInHand, IsConnected, StoreValue}
use Rattle.store_model.specs.Halves.{HalfAgrees, Origin}
use Rattle.store_model.specs.Stores.{IsStore}

-- ---- a store with disks that each have a state

-- a store, and its disk
pub record Point (D : Type 0) : Type 0 where
  pub store : StoreValue
  pub disk : D

-- what may come between a begin and the last step: a step that moves an object, or a read in which no call of
-- the disk fails
abbrev pub Passes : {D : Type 0} → (D → disk.State) → ℕ → Bool → Point D → Point D → Type 0
Passes state classes true a b = IsStep classes a.store b.store (state a.disk) (state b.disk)
    (Ok progress.Moved)
Passes state classes false a b = NothingChanged a.store b.store (state a.disk) (state b.disk)

-- one such pass, and what it leaves
pub record Pass (D : Type 0) : Type 0 where
  pub is_step : Bool
  pub after : Point D

-- one pass after another
abbrev pub GoesThrough : {D : Type 0} → (D → disk.State) → ℕ → Point D → List (Pass D) → Point D → Type 0
GoesThrough state classes a [] b = b ≡ a
GoesThrough state classes a (pass ∷ rest) b = Passes state classes pass.is_step a pass.after
    × GoesThrough state classes pass.after rest b

-- how many of them are steps
abbrev pub moves : {D : Type 0} → List (Pass D) → ℕ
moves [] = 0
moves (pass ∷ rest) = (if pass.is_step then 1 else 0) + moves rest

-- what the last step answers: what stands was settled, or the disk failed
abbrev pub is_last : Result Progress Refusal → Bool
is_last (Ok progress.Moved) = false
is_last (Ok progress.Settled) = true
is_last (Err refused) = true

-- what one call answers that makes the flush
abbrev pub as_one_call : Result Progress Refusal → Result Done Refusal
as_one_call (Ok p) = Ok (record { kept = true })
as_one_call (Err refused) = Err refused

-- A change was begun in a sound store over its disk. It wasn't quiet, and its flush was made by steps, with
-- reads between, until a step answered that what stands was settled, or that the disk failed.
pub record IsSliced {D : Type 0} (state : D → disk.State) (classes : ℕ) (c : Change) (old new : StoreValue)
    (before now : D) (result : Result Progress Refusal) : Type 0 where
  pub over : IsConnected classes old (state before)
  pub sound : old.is_broken ≡ false → IsStore classes old
  pub first : Point D
  pub begins : BeginsChange classes c old first.store (state before) (state first.disk) (Ok begun.InHand)
  pub passes : List (Pass D)
  pub last : Point D
  pub goes : GoesThrough state classes first passes last
  pub ends : IsStep classes last.store new (state last.disk) (state now) result
  pub is_end : IsTrue (is_last result)
