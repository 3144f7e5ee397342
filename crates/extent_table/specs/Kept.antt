-- What was kept under each key, beside what stands there now.
use Rattle.std.specs.Prelude.{◌≡◌, ℕ, ◌<◌, Bool, true, false, List, length, count_by, Option, Some, None, IsTrue, slice_index, slice_index_or}
use Rattle.extent_table.specs.declared.kept.Kept.{Kept}
use Rattle.extent_table.specs.declared.kept.Kept.TheVariants.{Same, New, Old}
use Rattle.extent_table.specs.declared.spot.Spot.{Spot}

-- the record of a key, and past the end that of a key that did not change
abbrev pub kept_in : List Kept → ℕ → Kept
kept_in kept key = slice_index_or kept key Same

-- what was kept is not what stands now
abbrev pub is_change : Kept → Bool
is_change Same = false
is_change New = true
is_change (Old s) = true

-- what was kept where this stands now
abbrev pub kept_spot : Kept → Option Spot → Option Spot
kept_spot Same now = now
kept_spot New now = None
kept_spot (Old s) now = Some s

-- a list has each key that changed, once, and no other
pub record AreChanges (kept : List Kept) (changed : List ℕ) : Type 0 where
  pub count : length changed ≡ count_by is_change kept
  pub whole : (key : ℕ) → IsTrue (is_change (kept_in kept key))
      → (i : ℕ) × (i < length changed) × (slice_index changed i ≡ key)
  pub only : (i : ℕ) → i < length changed → IsTrue (is_change (kept_in kept (slice_index changed i)))

-- the record of a key that changes from this
abbrev pub kept_as : Option Spot → Kept
kept_as None = New
kept_as (Some s) = Old s
