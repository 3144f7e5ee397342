-- Where the objects of a dump are put: each behind the earlier ones of its class, in a layout whose payload
-- segments have the volumes of the first line, and with nothing in buffers.
use Rattle.std.specs.Prelude.{◌≡◌, ℕ, ◌+◌, ◌<◌, ◌≤◌, nat_lt, false, if◌then◌else◌, List, length, map, slice_index, Some, None}
use Rattle.std.specs.FinMap as fin
use Rattle.std.specs.FinSet as set
use Rattle.size_class.specs.Classes.{class_of, zero_grid}
use Rattle.map_model.specs.Maps.{Map}
use Rattle.map_model.specs.Weights.{Entry, same_name}
use Rattle.segment_layout.specs.Books.{Book, volumes}
use Rattle.segment_layout.specs.Shapes.{start_of}
use Rattle.table_rules.specs.Tables.{Apart}
use Rattle.extent_table.specs.declared.spot.Spot.{Spot}
use Rattle.extent_table.specs.Extents.{Spots, record_of}
use Rattle.placement_model.specs.Orders.{IsUpTo}
use Rattle.placement_model.specs.Reads.{AreNamed}
use Rattle.dump_stream.specs.Loading.{filled_by, last_name}

-- where an object of a size goes, when so much of each segment is filled; an empty one has place 0
abbrev pub spot_at : ℕ → List ℕ → List ℕ → ℕ → Spot
spot_at k volumes filled size = record {
  place = if nat_lt 0 size then start_of k volumes (class_of size) + slice_index filled (class_of size)
      else 0;
  size = size;
}

-- where an object of a size goes behind others
abbrev pub spot_after : ℕ → List ℕ → List Entry → ℕ → Spot
spot_after k volumes before size = spot_at k volumes (filled_by before) size

-- The objects stand so, under their names: each in the part of its class's segment that is filled, no two in
-- one byte, and none with more than its volume.
pub record IsPlacing (size_max k : ℕ) (volumes : List ℕ) (es : List Entry) (spots : Spots) : Type 0 where
  pub named : AreNamed spots
  pub upto : IsUpTo (last_name es) spots
  pub sizes : map (λ (e : List ℕ × Spot). e.1.size) (fin.entries spots) ≡ map (λ (e : Entry). length e.1) es
  pub small : (name : List ℕ) (s : Spot) → fin.get spots name ≡ Some s → s.size ≤ size_max
  pub empty : (name : List ℕ) (s : Spot) → fin.get spots name ≡ Some s → s.size ≡ 0 → s.place ≡ 0
  pub within : (name : List ℕ) (s : Spot) → fin.get spots name ≡ Some s → 0 < s.size
      → (start_of k volumes (class_of s.size) ≤ s.place)
      × (s.place + s.size ≤ start_of k volumes (class_of s.size)
      + slice_index (filled_by es) (class_of s.size))
  pub apart : (a b : List ℕ) (s t : Spot) → fin.get spots a ≡ Some s → fin.get spots b ≡ Some t
      → same_name a b ≡ false → Apart (record_of (a, s)) (record_of (b, t))
  pub room : (c : ℕ) → slice_index (filled_by es) c ≤ slice_index volumes c

-- the book of a map that was laid out at once
abbrev pub laid_book : Map → Book
laid_book m = record { caps = volumes m; grid = zero_grid; buffered = set.empty; digests = None }
