-- The factor covers what the moves of a flush weigh: the entries that the flush takes out of the grid, and
-- the items that found no room, pay for them.
use Rattle.std.specs.Prelude.{ℕ, ◌+◌, ◌*◌, ◌≤◌}
use Rattle.std.proofs.Common.{arith}
use Rattle.std.proofs.Math.Nat.{mul-le-mul_right}
use Rattle.move_cost.specs.Costs.{factor}
use Rattle.cost_laws.proofs.HeavyClasses.{reach}

pub covers_entries : (k : ℕ) → 8 * k * reach k + 4 * k + 2 ≤ factor k
covers_entries k = omega arith

pub covers_missed : (k : ℕ) → 4 * k * reach k + 2 ≤ factor k
covers_missed k = omega arith

pub factor_covers : (k moves entries missed : ℕ)
    → moves ≤ (8 * k * reach k + 4 * k + 2) * entries + (4 * k * reach k + 2) * missed
    → moves ≤ factor k * entries + factor k * missed
factor_covers k moves entries missed h = omega (
  arith,
  h,
  mul-le-mul_right entries (covers_entries k),
  mul-le-mul_right missed (covers_missed k),
)
