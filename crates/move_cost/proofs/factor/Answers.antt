use Rattle.std.proofs.Common.{arith}
use Rattle.std.specs.Prelude.{◌+◌}
use Rattle.std.proofs.lemmas.Nat.{mul-le}
use Rattle.move_cost.proofs.CostLaws.{small_power}
use Rattle.move_cost.proofs.factor.Goals as goal

pub overflow_add-result : goal.overflow_add-result
overflow_add-result c = omega (
  arith,
  small_power c.lg_up.result (omega (
    arith,
    c.lg_up.ensures.least,
    c.requires.high,
  )),
)

pub overflow_mul-result-2 : goal.overflow_mul-result-2
overflow_mul-result-2 c = omega (
  arith,
  mul-le c.args.k (c.lg_up.result + 3) 64 9 c.requires.high
      (omega (arith, small_power c.lg_up.result (omega (arith, c.lg_up.ensures.least, c.requires.high)))),
)

pub overflow_add-result-2 : goal.overflow_add-result-2
overflow_add-result-2 c = omega (
  arith,
  mul-le c.args.k (c.lg_up.result + 3) 64 9 c.requires.high
      (omega (arith, small_power c.lg_up.result (omega (arith, c.lg_up.ensures.least, c.requires.high)))),
)

pub overflow_add-result-3 : goal.overflow_add-result-3
overflow_add-result-3 c = omega (
  arith,
  mul-le c.args.k (c.lg_up.result + 3) 64 9 c.requires.high
      (omega (arith, small_power c.lg_up.result (omega (arith, c.lg_up.ensures.least, c.requires.high)))),
)
