-- The images of a file: all that a crash may leave, from the last sync and what was asked since.
use Rattle.std.specs.Prelude.{◌≡◌, ◌⊎◌, ℕ, ◌+◌, ◌<◌, nat_le, nat_lt, Bool, ◌&&◌, ◌||◌, List, [], ◌∷◌, length, slice_index, Contains, IsTrue}
use Rattle.std.specs.List.{list_any}

-- What stands between the last sync and now: the bytes that the sync left, the lengths that the file has
-- had since, that of the sync among them, and the ranges that were written since, by position and size.
pub record Unsynced : Type 0 where
  pub synced : List ℕ
  pub lengths : List ℕ
  pub ranges : List (ℕ × ℕ)

-- a position lies in a range
abbrev pub in_range : ℕ → ℕ × ℕ → Bool
in_range i range = nat_le range.0 i && nat_lt i (range.0 + range.1)

-- a crash may leave any byte at a position: it was written since, or lay outside the file at some time since
abbrev pub is_unsynced : Unsynced → ℕ → Bool
is_unsynced u i = list_any (in_range i) u.ranges || list_any (λ n. nat_le n i) u.lengths

-- a crash may leave these bytes
pub record IsImage (u : Unsynced) (image : List ℕ) : Type 0 where
  pub held_length : Contains u.lengths (length image)
  pub bytes : (i : ℕ) → i < length image
      → IsTrue (is_unsynced u i) ⊎ (slice_index image i ≡ slice_index u.synced i)

-- after a sync of these bytes
abbrev pub after_sync : List ℕ → Unsynced
after_sync bytes = record { synced = bytes; lengths = length bytes ∷ []; ranges = [] }

-- once a range is written, or is being written
abbrev pub with_range : Unsynced → ℕ → ℕ → Unsynced
with_range u at n = record u { ranges = (at, n) ∷ u.ranges }

-- once a length is set, or is being set
abbrev pub with_length : Unsynced → ℕ → Unsynced
with_length u n = record u { lengths = n ∷ u.lengths }
