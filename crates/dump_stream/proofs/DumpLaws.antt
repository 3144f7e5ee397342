-- The dump of the map that a file gives, by the places of its objects.
use Rattle.std.specs.Prelude.{◌≡◌, ℕ, suc, ◌+◌, ◌≤◌, List, [], ◌∷◌, ◌++◌, codes, map, length, slice_get, Option, Some, option_map, Bool, true, false, cond, ◌&&◌, T, refl}
use Rattle.std.proofs.Common.{arith, ap, sym, ◌∙◌, subst}
use Rattle.std.proofs.lemmas.List.{length-map}
use Rattle.std.specs.Ordering.{is_lt}
use Rattle.std.specs.FinMap as fin
use Rattle.std.specs.FinMap.Entries.{find, below_all}
use Rattle.byte_ranges.proofs.RangeLaws.{length-bytes_at}
use Rattle.size_class.specs.declared.TheConstants.{SIZE_MAX}
use Rattle.slot_codec.specs.Spelling.{head_len}
use Rattle.slot_codec.specs.declared.codec.Record.{Record}
use Rattle.map_model.specs.Maps.{name_cmp}
use Rattle.map_model.specs.Weights.{Entry, same_name}
use Rattle.map_model.proofs.MapLaws.{name_order, names_differ}
use Rattle.segment_layout.specs.Books.{volumes, volumes_of_sizes}
use Rattle.table_rules.specs.Tables.{end_of_record}
use Rattle.extent_table.specs.declared.spot.Spot.{Spot}
use Rattle.extent_table.specs.Extents.{Spots}
use Rattle.placement_model.specs.Reads.{AreNamed, EndWithin, object_at, read_at}
use Rattle.placement_model.proofs.EnterLaws.{by_name}
use Rattle.placement_model.proofs.OpenedLaws.{record_within}
use Rattle.placement_model.proofs.ReadLaws.{get-read_at}
use Rattle.reopen.specs.Loads.{IsReadIn, KeepsLoadedIn, digests_loaded, table_seen}
use Rattle.reopen.specs.declared.state.Loaded.{Loaded}
use Rattle.dump_stream.specs.Heads.{head_line}
use Rattle.dump_stream.specs.Dumps.{dump_line}
use Rattle.dump_stream.specs.Dumping.{AreSizes, read_entry, sizes_at}
use Rattle.dump_stream.proofs.PutLaws.{spot_of_entry}
use Rattle.dump_stream.proofs.SumLaws.{are_sizes}
use Rattle.placement_model.proofs.EntryLaws.{entries-read_at, len-read_at}

-- ---- the entries of the map that a file gives

-- ---- its volumes

sizes_same : (base : ℕ) (file : List ℕ) (es : List (List ℕ × Spot))
    → ((i : ℕ) (e : List ℕ × Spot) → slice_get es i ≡ Some e → base + e.1.place + e.1.size ≤ length file)
    → map length (map (λ (e : Entry). e.1) (map (read_entry base file) es))
    ≡ map (λ (e : List ℕ × Spot). e.1.size) es
sizes_same base file [] within = refl
sizes_same base file (e ∷ es) within =
    let one : length (object_at base file e.1) ≡ e.1.size =
    length-bytes_at file (base + e.1.place) e.1.size (within 0 e refl) in
    let rest = sizes_same base file es (λ i x is. within (suc i) x is) in
    λ i. one i ∷ rest i

volumes_of_file : (base : ℕ) (file : List ℕ) (spots : Spots) → AreNamed spots → EndWithin base file spots
    → volumes (read_at base file spots) ≡ volumes_of_sizes (sizes_at spots)
volumes_of_file base file spots named within =
    ap (λ (es : List Entry). volumes_of_sizes (map length (map (λ (e : Entry). e.1) es)))
    (entries-read_at base file spots named)
    ∙ ap volumes_of_sizes (sizes_same base file (fin.entries spots)
    (λ i e is. within e.0 e.1 (spot_of_entry spots i e.0 e.1 is)))

-- the first line of its dump
pub line_is : (C base : ℕ) (file line : List ℕ) (spots : Spots) → AreNamed spots → EndWithin base file spots
    → line ≡ head_line C (fin.len spots) (volumes_of_sizes (sizes_at spots)) ++ codes "\n"
    → line ≡ dump_line C (read_at base file spots)
line_is C base file line spots named within is =
    is
    ∙ ap (λ n. head_line C n (volumes_of_sizes (sizes_at spots)) ++ codes "\n")
    (sym (len-read_at base file spots named))
    ∙ ap (λ (vs : List ℕ). head_line C (fin.len (read_at base file spots)) vs ++ codes "\n")
    (sym (volumes_of_file base file spots named within))

-- ---- a table that was loaded, of a file whose slots have logs or have none

pub loaded_sizes : {C : ℕ} {logged : Bool} (x : Loaded C) → KeepsLoadedIn logged x
    → AreSizes SIZE_MAX (sizes_at x.table.now)
loaded_sizes x keeps = are_sizes SIZE_MAX (fin.entries x.table.now) (λ i e is.
    by_name (λ (r : Record). r.size ≤ SIZE_MAX) x.table.now keeps.is_table.now_named
    keeps.valid.0.places.sizes e.0 e.1 (spot_of_entry x.table.now i e.0 e.1 is))

-- each object ends within the file whose table was read
pub loaded_within : {C : ℕ} {logged by_mark : Bool} (file : List ℕ) (x : Loaded C) → KeepsLoadedIn logged x
    → IsReadIn by_mark file x
    → EndWithin (head_len x.block.names) file x.table.now
loaded_within {C} file x keeps from name s is =
    let base = head_len x.block.names in
    let within = by_name (λ (r : Record). base + end_of_record r ≤ length file) x.table.now
    keeps.is_table.now_named
    (record_within C SIZE_MAX (table_seen x (digests_loaded x)) file (read_at base file x.table.now)
    _ from) name s is in
    omega (arith, within)
