-- Which names stand in buffers, by the spots of a table.
use Rattle.std.specs.Prelude.{◌≡◌, ℕ, ◌<◌, nat_lt, Bool, false, not, ◌&&◌, List, length, map, filter, Option, Some, None}
use Rattle.std.specs.FinMap as fin
use Rattle.std.specs.FinSet as set
use Rattle.size_class.specs.Classes.{class_of}
use Rattle.slot_codec.specs.Names.{name_cmp}
use Rattle.slot_codec.specs.declared.codec.Record.{Record}
use Rattle.map_model.specs.Maps.{Map}
use Rattle.segment_layout.specs.Books.{Names}
use Rattle.table_rules.specs.Tables.{TableInLayout, lies_in_payload}
use Rattle.extent_table.specs.declared.spot.Spot.{Spot}
use Rattle.extent_table.specs.Extents.{Spots, record_of, records_of}

-- whether the record of a name passes a test
abbrev pub passes : (Record → Bool) → List ℕ → Option Spot → Bool
passes p q None = false
passes p q (Some s) = p (record_of (q, s))

-- the names of the records that pass
abbrev pub chosen_names : (Record → Bool) → Spots → set.FinSet name_cmp
chosen_names p spots = set.from_list (map (λ (r : Record). r.name) (filter p (records_of spots)))

-- A map has an object of the same size under each name.
abbrev pub HasSizes : Map → Spots → Type 0
HasSizes m spots = (q : List ℕ) (s : Spot) → fin.get spots q ≡ Some s
    → (v : List ℕ) × (fin.get m q ≡ Some v) × (length v ≡ s.size)

-- Names are those of the objects of a class below b that stand outside their payload segments, and of others
-- from b on.
pub record AreBuffered (b : ℕ) (t : TableInLayout) (spots : Spots) (names : Names) : Type 0 where
  pub gone : (q : List ℕ) → fin.get spots q ≡ None → set.contains names q ≡ false
  pub same : (q : List ℕ) (s : Spot) → fin.get spots q ≡ Some s → class_of s.size < b
      → set.contains names q ≡ (nat_lt 0 s.size
      && not (lies_in_payload t (class_of s.size) (record_of (q, s))))
