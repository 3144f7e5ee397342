-- How many bytes the objects of spots have together at most.
use Rattle.std.specs.Prelude.{◌≡◌, ℕ, ◌*◌, ◌≤◌, List, [], ◌∷◌, length, sum_by}
use Rattle.std.proofs.Common.{arith}
use Rattle.std.proofs.Math.Nat.{mul-le-mul_right, suc-mul}
use Rattle.std.proofs.lemmas.List.Sums.{sum_by-cons}
use Rattle.std.specs.FinMap as fin
use Rattle.slot_codec.specs.declared.codec.Record.{Record}
use Rattle.segment_layout.proofs.SumLaws.{sum_by_le_places}
use Rattle.table_rules.specs.Tables.{no_record}
use Rattle.extent_table.specs.Extents.{Spots, records_of, volume_of}
use Rattle.extent_table.proofs.ExtentLaws.{records_of-few}
use Rattle.placement_model.specs.LaidOut.{IsLaidOut}
use Rattle.placement_model.proofs.LaidOutLaws.{laid_below}
use Rattle.placement_model.proofs.SpotSumLaws.{records_sum, volume_of-weights}

all_at_most : (most : ℕ) (rs : List Record) → sum_by (λ (r : Record). most) rs ≡ length rs * most
all_at_most most [] = omega (arith)
all_at_most most (r ∷ rs) = omega (
  arith,
  sum_by-cons (λ (x : Record). most) r rs,
  all_at_most most rs,
  suc-mul (length rs) most,
)

-- Where a layout holds the spots, and they are few, they have few bytes.
pub volume_small : (classes size_max k : ℕ) (caps : List ℕ) (grid : List (List ℕ)) (spots : Spots)
    → IsLaidOut classes size_max k caps grid spots → (names : ℕ) → fin.len spots ≤ names
    → volume_of spots ≤ names * size_max
volume_small classes size_max k caps grid spots h names few =
    let rs = records_of spots in
    let count : length rs ≤ names = omega (arith, records_of-few spots, few) in
    omega (
      arith,
      volume_of-weights spots,
      records_sum (λ (r : Record). r.size) spots h.named,
      sum_by_le_places no_record (λ (r : Record). r.size) (λ r. size_max) rs
          (laid_below classes size_max k caps grid spots h).sizes,
      all_at_most size_max rs,
      mul-le-mul_right size_max count,
    )
