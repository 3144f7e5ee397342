-- Three costs are costs by class. These laws stand here, and not beside the others in proofs, since what an
-- impl says of its ghost members may name specs alone.
use Rattle.std.specs.Prelude.{ℕ, ◌+◌}
use Rattle.std.proofs.Common.{arith}
use Rattle.size_class.proofs.ClassLaws.{power_rises, power_next}
use Rattle.move_cost.specs.Costs.{IsCost, linear, flat, seek}

pub linear_is : (C : ℕ) → IsCost C linear
linear_is C = record {
  some = omega arith;
  fits = omega arith;
  rises = λ c h. power_rises c (c + 1)
      (omega arith);
  slowly = λ c h. omega (arith, power_next c);
}

pub flat_is : (C : ℕ) → IsCost C flat
flat_is C = record {
  some = omega arith;
  fits = omega arith;
  rises = λ c h. omega arith;
  slowly =
      λ c h. omega arith;
}

pub seek_is : (C : ℕ) → IsCost C seek
seek_is C = record {
  some = omega arith;
  fits = omega arith;
  rises =
      λ c h. omega (arith, power_rises c (c + 1) (omega arith));
  slowly = λ c h. omega (arith, power_next c);
}
