-- The state of a store over a file, by the places of its objects.
use Rattle.std.specs.Prelude.{◌≡◌, ℕ, suc, ◌+◌, List, [], ◌∷◌, map, length, slice_get, sum_by, Option, Some, option_map, Bool, true, false, cond, ◌&&◌, T, refl}
use Rattle.std.proofs.Common.{arith, ap, sym, ◌∙◌, subst}
use Rattle.std.proofs.lemmas.List.{length-map}
use Rattle.std.specs.Ordering.{is_lt}
use Rattle.std.specs.FinMap as fin
use Rattle.std.specs.FinMap.Entries.{find, below_all}
use Rattle.map_model.specs.Maps.{name_cmp, volume}
use Rattle.map_model.proofs.MapLaws.{name_order, names_differ}
use Rattle.map_model.specs.Weights.{same_name}
use Rattle.extent_table.specs.declared.spot.Spot.{Spot}
use Rattle.extent_table.specs.Extents.{Spots, volume_of}
use Rattle.byte_ranges.proofs.RangeLaws.{length-bytes_at}
use Rattle.std.proofs.lemmas.List.Sums.{sum_by-cons}
use Rattle.store_model.specs.Lines.{listing_of}
use Rattle.placement_model.specs.Reads.{AreNamed, EndWithin, object_at, read_at, read_entry}
use Rattle.placement_model.proofs.ReadLaws.{found_by_name, get-read_at}
use Rattle.placement_model.proofs.EntryLaws.{entries-read_at, len-read_at}

-- ---- sizes

-- each entry's object has the size that its spot says
HaveSizes : ℕ → List ℕ → List (List ℕ × Spot) → Type 0
HaveSizes base file es = (i : ℕ) (e : List ℕ × Spot) → slice_get es i ≡ Some e
    → length (object_at base file e.1) ≡ e.1.size

have_sizes : (base : ℕ) (file : List ℕ) (spots : Spots) → EndWithin base file spots
    → HaveSizes base file (fin.entries spots)
unfolding HaveSizes
have_sizes base file spots within i e is = length-bytes_at file (base + e.1.place) e.1.size
    (within e.0 e.1 (fin.get-entries spots e.0 ∙ found_by_name (fin.entries spots) i e
    (fin.entries_sorted spots) is))

abbrev size_of_read : List ℕ × List ℕ → List ℕ × ℕ
size_of_read e = (e.0, length e.1)

abbrev size_of_spot : List ℕ × Spot → List ℕ × ℕ
size_of_spot e = (e.0, e.1.size)

listed_same : (base : ℕ) (file : List ℕ) (es : List (List ℕ × Spot)) → HaveSizes base file es
    → map size_of_read (map (read_entry base file) es) ≡ map size_of_spot es
unfolding HaveSizes
listed_same base file [] sizes = refl
listed_same base file (e ∷ es) sizes =
    λ i. (e.0, sizes 0 e refl i) ∷ listed_same base file es (λ j x is. sizes (suc j) x is) i

sum_same : (base : ℕ) (file : List ℕ) (es : List (List ℕ × Spot)) → HaveSizes base file es
    → sum_by length (map (λ (e : List ℕ × List ℕ). e.1) (map (read_entry base file) es))
    ≡ sum_by (λ (x : Spot). x.size) (map (λ (e : List ℕ × Spot). e.1) es)
unfolding HaveSizes
sum_same base file [] sizes = refl
sum_same base file (e ∷ es) sizes = omega (
  arith,
  sum_by-cons (λ (x : List ℕ). length x) (object_at base file e.1)
      (map (λ (d : List ℕ × List ℕ). d.1) (map (read_entry base file) es)),
  sum_by-cons (λ (x : Spot). x.size) e.1 (map (λ (d : List ℕ × Spot). d.1) es),
  sizes 0 e refl,
  sum_same base file es (λ j x is. sizes (suc j) x is),
)

-- the names of the map with the sizes of its objects, and the bytes that these have together
pub listing-read_at : (base : ℕ) (file : List ℕ) (spots : Spots) → AreNamed spots → EndWithin base file spots
    → map size_of_read (fin.entries (read_at base file spots)) ≡ listing_of spots
listing-read_at base file spots named within =
    ap (map size_of_read) (entries-read_at base file spots named)
    ∙ listed_same base file (fin.entries spots) (have_sizes base file spots within)

pub volume-read_at : (base : ℕ) (file : List ℕ) (spots : Spots) → AreNamed spots → EndWithin base file spots
    → volume (read_at base file spots) ≡ volume_of spots
volume-read_at base file spots named within =
    ap (λ (es : List (List ℕ × List ℕ)). sum_by length (map (λ (e : List ℕ × List ℕ). e.1) es))
    (entries-read_at base file spots named)
    ∙ sum_same base file (fin.entries spots) (have_sizes base file spots within)
