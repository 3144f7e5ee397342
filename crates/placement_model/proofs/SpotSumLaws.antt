-- Sums over the records of spots: what a put and a removal do to them.
use Rattle.std.specs.Prelude.{◌≡◌, ℕ, ◌+◌, List, sum_by}
use Rattle.std.proofs.Common.{arith, ◌∙◌, ap}
use Rattle.std.specs.FinMap as fin
use Rattle.slot_codec.specs.Names.{IsName}
use Rattle.slot_codec.specs.declared.codec.Record.{Record}
use Rattle.map_model.proofs.MapLaws.{sum_by-map, weights-insert, weights-remove}
use Rattle.extent_table.specs.declared.spot.Spot.{Spot}
use Rattle.extent_table.specs.Extents.{Spots, record_of, records_of, volume_of}
use Rattle.extent_table.proofs.ExtentLaws.{records_of-all}
use Rattle.map_model.specs.Weights.{weight_at, weights}
use Rattle.placement_model.specs.Reads.{AreNamed}
use Rattle.placement_model.proofs.ReadLaws.{AreNamed-insert, AreNamed-remove}

-- a sum over the records is one over the entries
pub records_sum : (F : Record → ℕ) (spots : Spots) → AreNamed spots
    → sum_by F (records_of spots) ≡ weights (λ e. F (record_of e)) spots
records_sum F spots named = ap (sum_by F) (records_of-all spots named)
    ∙ sum_by-map F record_of (fin.entries spots)

-- a put adds the new record and takes the old one of its name
pub records_sum-insert : (F : Record → ℕ) (spots : Spots) (name : List ℕ) (s : Spot) → AreNamed spots
    → IsName name → sum_by F (records_of (fin.insert spots name s))
    + weight_at (λ e. F (record_of e)) spots name ≡ sum_by F (records_of spots) + F (record_of (name, s))
records_sum-insert F spots name s named is =
    omega (
      arith,
      records_sum F spots named,
      records_sum F (fin.insert spots name s) (AreNamed-insert spots name s named is),
      weights-insert (λ e. F (record_of e)) spots name s,
    )

-- a removal takes the record of its name
pub records_sum-remove : (F : Record → ℕ) (spots : Spots) (name : List ℕ) → AreNamed spots
    → sum_by F (records_of (fin.remove spots name)) + weight_at (λ e. F (record_of e)) spots name
    ≡ sum_by F (records_of spots)
records_sum-remove F spots name named =
    omega (
      arith,
      records_sum F spots named,
      records_sum F (fin.remove spots name) (AreNamed-remove spots name named),
      weights-remove (λ e. F (record_of e)) spots name,
    )

-- the volume of spots is such a sum
pub volume_of-weights : (spots : Spots) → volume_of spots ≡ weights (λ e. e.1.size) spots
volume_of-weights spots = sum_by-map (λ (s : Spot). s.size) (λ (e : List ℕ × Spot). e.1) (fin.entries spots)
