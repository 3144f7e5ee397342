-- Ranks in the order of their records' places.
use Rattle.std.specs.Prelude.{ℕ, nat_lt, Bool, List, filter, IsPermutation}
use Rattle.std.specs.List.Sorted.{IsNonDecreasingBy}
use Rattle.byte_ranges.specs.Lists.{below}
use Rattle.extent_table.specs.Extents.{Extents}
use Rattle.table_check.specs.Placed.{ranked}

-- the record of a rank has at least 1 byte
abbrev pub has_bytes : Extents → ℕ → Bool
has_bytes e i = nat_lt 0 (ranked e i).size

-- the ranks below n that pass a test, in order
abbrev pub passing : (ℕ → Bool) → ℕ → List ℕ
passing p n = filter p (below n)

-- They stand in the order of their records' places.
pub record IsByPlace (e : Extents) (p : ℕ → Bool) (n : ℕ) (order : List ℕ) : Type 0 where
  pub same : IsPermutation (passing p n) order
  pub rising : IsNonDecreasingBy (λ i. (ranked e i).place) order
