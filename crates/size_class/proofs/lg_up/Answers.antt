use Rattle.std.proofs.Common.{arith, ◌<◌, ◌+◌, inl, inr, ap, ◌∙◌}
use Rattle.std.proofs.lemmas.Bool.{cases_lt}
use Rattle.size_class.proofs.ClassLaws.{lg_up_is, power_rises, power_next}
use Rattle.size_class.proofs.lg_up.Goals as goal

pub returns-clause-same : goal.returns-clause-same
returns-clause-same c =
    let small : c.ilog2.result < 6 = elim (cases_lt c.ilog2.result 6) [
      | inl h ↦ h
      | inr h ↦ absurd
          (omega (arith, power_rises 6 c.ilog2.result h, c.ilog2.ensures.power_le))
    ] in
    ap (λ n. n + 1) c.from.ensures ∙ lg_up_is c.args.k c.ilog2.result (omega arith)
    (omega (arith, power_next c.ilog2.result)) (omega arith) (omega arith)
