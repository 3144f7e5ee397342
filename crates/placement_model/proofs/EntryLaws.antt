-- The entries of the map that a file gives.
use Rattle.std.specs.Prelude.{◌≡◌, ℕ, List, [], ◌∷◌, map, length, Option, Some, option_map, Bool, true, false, cond, ◌&&◌, T, refl}
use Rattle.std.proofs.Common.{ap, sym, ◌∙◌, subst}
use Rattle.std.proofs.lemmas.List.{length-map}
use Rattle.std.specs.Ordering.{is_lt}
use Rattle.std.specs.FinMap as fin
use Rattle.std.specs.FinMap.Entries.{find, below_all}
use Rattle.map_model.specs.Maps.{name_cmp}
use Rattle.map_model.specs.Weights.{same_name}
use Rattle.map_model.proofs.MapLaws.{name_order, names_differ}
use Rattle.extent_table.specs.declared.spot.Spot.{Spot}
use Rattle.extent_table.specs.Extents.{Spots}
use Rattle.placement_model.specs.Reads.{AreNamed, object_at, read_at, read_entry}
use Rattle.placement_model.proofs.ReadLaws.{get-read_at}

-- entries stay in order under the same names
below_same : (base : ℕ) (file k : List ℕ) (es : List (List ℕ × Spot))
    → below_all name_cmp k (map (read_entry base file) es) ≡ below_all name_cmp k es
below_same base file k [] = refl
below_same base file k (e ∷ es) = ap (λ (b : Bool). is_lt (name_cmp k e.0) && b) (below_same base file k es)

sorted_same : (base : ℕ) (file : List ℕ) (es : List (List ℕ × Spot))
    → fin.is_sorted name_cmp (map (read_entry base file) es) ≡ fin.is_sorted name_cmp es
sorted_same base file [] = refl
sorted_same base file (e ∷ es) =
    λ i. below_same base file e.0 es i && sorted_same base file es i

found_same : (base : ℕ) (file q : List ℕ) (es : List (List ℕ × Spot))
    → find name_cmp q (map (read_entry base file) es) ≡ option_map (object_at base file) (find name_cmp q es)
found_same base file q [] = refl
found_same base file q (e ∷ es) =
    ap (cond (same_name q e.0) (Some (object_at base file e.1))) (found_same base file q es)
    ∙ through (same_name q e.0) (find name_cmp q es)
  where
    through : (b : Bool) (o : Option Spot) → cond b (Some (object_at base file e.1))
        (option_map (object_at base file) o) ≡ option_map (object_at base file) (cond b (Some e.1) o)
    through true o = refl
    through false o = refl

-- the entries of the map that a file gives
pub entries-read_at : (base : ℕ) (file : List ℕ) (spots : Spots) → AreNamed spots
    → fin.entries (read_at base file spots) ≡ map (read_entry base file) (fin.entries spots)
entries-read_at base file spots named =
    let es = map (read_entry base file) (fin.entries spots) in
    let sorted : T (fin.is_sorted name_cmp es) = subst T (sym (sorted_same base file (fin.entries spots)))
    (fin.entries_sorted spots) in
    let same : read_at base file spots ≡ fin.from_sorted es =
    fin.same_map name_order names_differ (read_at base file spots) (fin.from_sorted es) (λ q.
    get-read_at base file spots named q ∙ ap (option_map (object_at base file)) (fin.get-entries spots q)
    ∙ sym (found_same base file q (fin.entries spots)) ∙ sym (fin.get-from_sorted name_cmp es q sorted)) in
    ap fin.entries same ∙ fin.entries-from_sorted name_cmp es sorted

-- it has as many names
pub len-read_at : (base : ℕ) (file : List ℕ) (spots : Spots) → AreNamed spots
    → fin.len (read_at base file spots) ≡ fin.len spots
len-read_at base file spots named = fin.len-entries (read_at base file spots)
    ∙ ap length (entries-read_at base file spots named)
    ∙ length-map (fin.entries spots) (read_entry base file) ∙ sym (fin.len-entries spots)
