-- A map whose objects have the sizes that spots say: its volumes are those of the spots, and so they are
-- after a change of both.
use Rattle.std.specs.Prelude.{◌≡◌, ℕ, ◌+◌, Bool, true, false, cond, List, [], ◌∷◌, length, map, sum_by, Option, Some, None, option_map, refl}
use Rattle.std.proofs.Common.{sym, ◌∙◌, ap}
use Rattle.std.proofs.lemmas.Option.{same_Some}
use Rattle.std.specs.FinMap as fin
use Rattle.std.specs.FinMap.Entries.{same_entries}
use Rattle.byte_ranges.proofs.RangeLaws.{length-bytes_at}
use Rattle.slot_codec.specs.Names.{name_cmp}
use Rattle.slot_codec.specs.declared.codec.Record.{Record}
use Rattle.map_model.specs.Maps.{Map, volume}
use Rattle.map_model.specs.Weights.{same_name}
use Rattle.map_model.proofs.MapLaws.{name_order, names_differ, sum_by-map}
use Rattle.segment_layout.specs.Books.{volumes, volumes_of_sizes}
use Rattle.table_rules.specs.Tables.{sizes}
use Rattle.extent_table.specs.declared.spot.Spot.{Spot}
use Rattle.extent_table.specs.Extents.{Spots, record_of, records_of, volume_of}
use Rattle.extent_table.proofs.ExtentLaws.{records_of-all}
use Rattle.flush_run.proofs.SizeLaws.{find_image, image_sorted, with_image}
use Rattle.store_model.specs.Sized.{IsSizedBy}
use Rattle.placement_model.specs.Buffered.{HasSizes}
use Rattle.placement_model.specs.Reads.{AreNamed, EndWithin, object_at, read_at}
use Rattle.placement_model.proofs.ReadLaws.{get-read_at}
use Rattle.std.proofs.lemmas.List.{length-map}

-- the size of a spot
abbrev spot_size : Spot → ℕ
spot_size s = s.size

-- the sizes name by name
pub sized_entries : (m : Map) (spots : Spots) → IsSizedBy m spots
    → map (with_image length) (fin.entries m)
    ≡ map (with_image spot_size) (fin.entries spots)
sized_entries m spots sized = same_entries name_cmp name_order names_differ
    (map (with_image length) (fin.entries m))
    (map (with_image spot_size) (fin.entries spots)) (image_sorted length m)
    (image_sorted spot_size spots) (λ q. find_image length q (fin.entries m)
    ∙ ap (option_map length) (sym (fin.get-entries m q)) ∙ sized q
    ∙ ap (option_map spot_size) (fin.get-entries spots q) ∙ sym (find_image spot_size q (fin.entries spots)))

map-map : {X Y Z : Type 0} (f : Y → Z) (g : X → Y) (xs : List X) → map f (map g xs) ≡ map (λ x. f (g x)) xs
map-map f g [] = refl
map-map f g (x ∷ xs) = ap (λ ys. f (g x) ∷ ys) (map-map f g xs)

-- and in order
pub sized_values : (m : Map) (spots : Spots) → IsSizedBy m spots
    → map length (fin.values m) ≡ map spot_size (fin.values spots)
sized_values m spots sized =
    map-map length (λ (e : List ℕ × List ℕ). e.1) (fin.entries m)
    ∙ sym (map-map (λ (e : List ℕ × ℕ). e.1) (with_image length) (fin.entries m))
    ∙ ap (map (λ (e : List ℕ × ℕ). e.1)) (sized_entries m spots sized)
    ∙ map-map (λ (e : List ℕ × ℕ). e.1) (with_image spot_size) (fin.entries spots)
    ∙ sym (map-map spot_size (λ (e : List ℕ × Spot). e.1) (fin.entries spots))

-- The volumes by class are those of the records' sizes.
pub sized_volumes : (m : Map) (spots : Spots) → IsSizedBy m spots → AreNamed spots
    → volumes m ≡ volumes_of_sizes (sizes (records_of spots))
sized_volumes m spots sized named = ap volumes_of_sizes (sized_values m spots sized
    ∙ map-map spot_size (λ (e : List ℕ × Spot). e.1) (fin.entries spots)
    ∙ sym (map-map (λ (r : Record). r.size) record_of (fin.entries spots))
    ∙ ap sizes (sym (records_of-all spots named)))

-- The volume is that of the spots.
pub sized_volume : (m : Map) (spots : Spots) → IsSizedBy m spots → volume m ≡ volume_of spots
sized_volume m spots sized =
    sym (sum_by-map (λ (n : ℕ). n) length (fin.values m))
    ∙ ap (sum_by (λ (n : ℕ). n)) (sized_values m spots sized)
    ∙ sum_by-map (λ (n : ℕ). n) spot_size (fin.values spots)

-- each spot has an object of its size
pub sized_has : (m : Map) (spots : Spots) → IsSizedBy m spots → HasSizes m spots
sized_has m spots sized q s there = by (fin.get m q) refl (sized q ∙ ap (option_map spot_size) there)
  where
    by : (o : Option (List ℕ)) → fin.get m q ≡ o → option_map length (fin.get m q) ≡ Some s.size
        → (v : List ℕ) × (fin.get m q ≡ Some v) × (length v ≡ s.size)
    by None is same = absurd (let bad : None ≡ Some s.size = sym (ap (option_map length) is) ∙ same in cc)
    by (Some v) is same = (v, is, same_Some (length v) s.size (sym (ap (option_map length) is) ∙ same))

-- ---- a change of both

pub sized_gone : (m : Map) (spots : Spots) (name : List ℕ) → IsSizedBy m spots
    → IsSizedBy (fin.remove m name) (fin.remove spots name)
sized_gone m spots name sized q =
    ap (option_map length) (fin.get-remove name_order m name q)
    ∙ by (same_name q name)
    ∙ sym (ap (option_map spot_size) (fin.get-remove name_order spots name q))
  where
    by : (b : Bool) → option_map length (cond b None (fin.get m q))
        ≡ option_map spot_size (cond b None (fin.get spots q))
    by true = refl
    by false = sized q

pub sized_put : (m : Map) (spots : Spots) (name object : List ℕ) (s : Spot) → length object ≡ s.size
    → IsSizedBy m spots → IsSizedBy (fin.insert m name object) (fin.insert spots name s)
sized_put m spots name object s same sized q =
    ap (option_map length) (fin.get-insert name_order m name object q)
    ∙ by (same_name q name)
    ∙ sym (ap (option_map spot_size) (fin.get-insert name_order spots name s q))
  where
    by : (b : Bool) → option_map length (cond b (Some object) (fin.get m q))
        ≡ option_map spot_size (cond b (Some s) (fin.get spots q))
    by true = ap Some same
    by false = sized q

-- what a file gives
pub sized_read : (base : ℕ) (file : List ℕ) (spots : Spots) → AreNamed spots → EndWithin base file spots
    → IsSizedBy (read_at base file spots) spots
sized_read base file spots named within q =
    ap (option_map length) (get-read_at base file spots named q) ∙ by (fin.get spots q) refl
  where
    by : (o : Option Spot) → fin.get spots q ≡ o
        → option_map length (option_map (object_at base file) o) ≡ option_map spot_size o
    by None is = refl
    by (Some s) is = ap Some (length-bytes_at file (base + s.place) s.size (within q s is))

-- a map whose objects have the sizes of spots has as many names
pub sized_len : (m : Map) (spots : Spots) → IsSizedBy m spots → fin.len m ≡ fin.len spots
sized_len m spots sized = fin.len-entries m ∙ sym (length-map (fin.entries m) (with_image length))
    ∙ ap length (sized_entries m spots sized)
    ∙ length-map (fin.entries spots) (with_image (λ (s : Spot). s.size)) ∙ sym (fin.len-entries spots)
