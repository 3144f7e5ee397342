use Rattle.std.proofs.Common.{arith, ◌<◌, inl, inr}
use Rattle.std.proofs.lemmas.Bool.{cases_lt}
use Rattle.size_class.proofs.ClassLaws.{class_is, power_rises, power_next}
use Rattle.size_class.proofs.class_of.Goals as goal

pub returns-clause-same : goal.returns-clause-same
returns-clause-same c =
    let small : c.ilog2.result < 32 = elim (cases_lt c.ilog2.result 32) [
      | inl h ↦ h
      | inr h ↦ absurd
          (omega (arith, power_rises 32 c.ilog2.result h, c.ilog2.ensures.power_le))
    ] in
    class_is _ _ (record { low = c.ilog2.ensures.power_le; high = omega (arith, power_next c.ilog2.result) })
    small
