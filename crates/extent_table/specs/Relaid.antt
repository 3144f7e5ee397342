-- What stands under some keys, under other ones.
use Rattle.std.specs.Prelude.{◌≡◌, ◌≢◌, ℕ, ◌<◌, List, Option, None, IsSome, length, slice_index, slice_index_or}
use Rattle.extent_table.specs.Parts.{Lists}

-- each key of a list has what the key at its place in another list had, all of them differ, and no other key
-- has anything
pub record AreRelaid {X : Type 0} (count : ℕ) (old new : List (Option X)) (from to : List ℕ) : Type 0 where
  pub long : length to ≡ count
  pub same : (i : ℕ) → i < count
      → slice_index_or new (slice_index to i) None ≡ slice_index_or old (slice_index from i) None
  pub apart : (i j : ℕ) → i < j → j < count → slice_index to i ≢ slice_index to j
  pub whole : (key : ℕ) → IsSome (slice_index_or new key None) → Lists to key
