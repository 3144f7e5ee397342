-- The book of a table and the map that its records give.
use Rattle.std.specs.Prelude.{◌≡◌, ℕ, ◌+◌, ◌-◌, ◌≤◌, List, ◌++◌, length, map, replicate, take, drop, slice_index_or}
use Rattle.std.proofs.Common.{sym, ◌∙◌, ap}
use Rattle.std.proofs.lemmas.Grind.{same_number_lists}
use Rattle.std.proofs.lemmas.List.{length-take-le, take_at}
use Rattle.std.specs.FinMap as fin
use Rattle.byte_ranges.proofs.RangeLaws.{length-bytes_at}
use Rattle.size_class.specs.Classes.{width, zero_row}
use Rattle.slot_codec.specs.declared.codec.Record.{Record}
use Rattle.map_model.proofs.MapLaws.{sum_by-map}
use Rattle.segment_layout.specs.Shapes.{settled_caps, settled_grid}
use Rattle.segment_layout.specs.Books.{volumes, volumes_of_sizes}
use Rattle.table_rules.specs.Tables.{map_of, no_record, sizes}
use Rattle.segment_layout.proofs.BalanceLaws.{bytes_in}
use Rattle.segment_layout.proofs.BookLaws.{in_class, length-volumes_of_sizes, volumes_is, volumes_of_sizes-index}
use Rattle.segment_layout.proofs.SumLaws.{sum_by_same_places}
use Rattle.table_rules.specs.Objects.{HaveDistinctNames, LieWithin}
use Rattle.table_rules.proofs.FileLaws.{entry_of, weights_of_records}

-- the volumes of the map that records give are those of their sizes
pub volumes_of_records : (base : ℕ) (file : List ℕ) (rs : List Record) → HaveDistinctNames rs
    → LieWithin base file rs → volumes (map_of base file rs) ≡ volumes_of_sizes (sizes rs)
volumes_of_records base file rs named lie =
    same_number_lists (volumes (map_of base file rs)) (volumes_of_sizes (sizes rs))
    (length-volumes_of_sizes (map length (fin.values (map_of base file rs)))
    ∙ sym (length-volumes_of_sizes (sizes rs))) (λ c low.
    volumes_is (map_of base file rs) c
    ∙ weights_of_records (in_class c) base file rs named
    ∙ sum_by_same_places no_record (λ r. in_class c (entry_of base file r)) (λ r. bytes_in c r.size) rs
    (λ i within. ap (bytes_in c) (length-bytes_at file (base + (slice_index_or rs i no_record).place)
    (slice_index_or rs i no_record).size (lie i within)))
    ∙ sym (sum_by-map (λ size. bytes_in c size) (λ (r : Record). r.size) rs)
    ∙ sym (volumes_of_sizes-index (sizes rs) c))

-- laying out anew twice from one class on is laying out once
pub settled_caps-again : (b : ℕ) (caps first second : List ℕ) → b ≤ length caps
    → settled_caps b (settled_caps b caps first) second ≡ settled_caps b caps second
settled_caps-again b caps first second within =
    ap (λ (xs : List ℕ). xs ++ drop b second)
    (take_at (take b caps) (drop b first) b (length-take-le b caps within))

pub settled_grid-again : (b : ℕ) (grid : List (List ℕ)) → b ≤ length grid
    → settled_grid b (settled_grid b grid) ≡ settled_grid b grid
settled_grid-again b grid within =
    ap (λ (xs : List (List ℕ)). xs ++ replicate (width - b) zero_row)
    (take_at (take b grid) (replicate (width - b) zero_row) b (length-take-le b grid within))
