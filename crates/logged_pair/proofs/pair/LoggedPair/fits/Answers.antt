use Rattle.std.proofs.Common.{arith}
use Rattle.logged_pair.proofs.NextLaws.{few_records}
use Rattle.logged_pair.proofs.pair.LoggedPair.fits.Goals as goal

pub overflow_mul-count : goal.overflow_mul-count
overflow_mul-count c = omega (
  arith,
  few_records _ _ c.args.count c.self.view_is c.self.invariant.0.names_high c.requires.count,
)

pub overflow_add-count : goal.overflow_add-count
overflow_add-count c = omega (
  arith,
  few_records _ _ c.args.count c.self.view_is c.self.invariant.0.names_high c.requires.count,
)
