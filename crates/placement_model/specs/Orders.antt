-- Records that are set in order, one after another, are the records of the table.
use Rattle.std.specs.Prelude.{◌≡◌, ◌⊎◌, ℕ, true, List, length, Option, Some, None}
use Rattle.std.specs.Ordering.{is_lt}
use Rattle.std.specs.FinMap as fin
use Rattle.slot_codec.specs.Names.{name_cmp}
use Rattle.slot_codec.specs.declared.codec.Record.{Record}
use Rattle.extent_table.specs.declared.spot.Spot.{Spot}
use Rattle.extent_table.specs.Extents.{Spots, records_of}
use Rattle.placement_model.specs.Reads.{AreNamed}

abbrev pub spot_of : Record → Spot
spot_of r = record { place = r.place; size = r.size }

-- no name of a map comes behind the last one, and without a last one there is none
abbrev pub IsUpTo : Option (List ℕ) → Spots → Type 0
IsUpTo None spots = (q : List ℕ) (s : Spot) → fin.get spots q ≡ Some s → ⊥
IsUpTo (Some last) spots = (q : List ℕ) (s : Spot) → fin.get spots q ≡ Some s
    → (q ≡ last) ⊎ (is_lt (name_cmp q last) ≡ true)

-- The records that were read are those of the spots that were set, and the last name is the last that was
-- read.
pub record SetSoFar (spots : Spots) (last : Option (List ℕ)) (done : List Record) : Type 0 where
  pub named : AreNamed spots
  pub upto : IsUpTo last spots
  pub records : records_of spots ≡ done
  pub count : fin.len spots ≡ length done
