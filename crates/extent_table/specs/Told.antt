-- What became of a name, as the code tells it.
use Rattle.std.specs.Prelude.{ℕ, ◌==◌, ◌&&◌, not, Bool, false, List, Option, Some, None, bytes_eq}
use Rattle.slot_codec.specs.Changes.{Change}
use Rattle.slot_codec.specs.Changes.Change.{same, moved, gone, put}
use Rattle.extent_table.specs.declared.delta.Told.{Told}
use Rattle.extent_table.specs.declared.delta.Told.TheVariants.{Same, Moved, Gone, Put}
use Rattle.extent_table.specs.declared.spot.Spot.{Spot}
use Rattle.extent_table.specs.Parts.{digest_in}

-- the change that it is
abbrev pub told : Told → Change
told Same = same
told (Moved rank place) = moved rank place
told (Gone name) = gone name
told (Put r) = put r

-- the object of a key was kept, if it was one of this size, with this digest on both sides
abbrev pub is_same_at : ℕ → Spot → Spot → List (List ℕ) → List (List ℕ) → Bool
is_same_at key was is kept_digests digests =
    was.size == is.size && bytes_eq (digest_in kept_digests key) (digest_in digests key)

-- and it stood elsewhere
abbrev pub is_moved_at : ℕ → Spot → Spot → List (List ℕ) → List (List ℕ) → Bool
is_moved_at key was is kept_digests digests =
    is_same_at key was is kept_digests digests && not (was.place == is.place)

-- it was kept, if anything was
abbrev pub is_kept_at : ℕ → Option Spot → Spot → List (List ℕ) → List (List ℕ) → Bool
is_kept_at key None is kept_digests digests = false
is_kept_at key (Some was) is kept_digests digests = is_same_at key was is kept_digests digests
