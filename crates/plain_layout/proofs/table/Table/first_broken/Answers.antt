use Rattle.std.proofs.Common.{arith, refl}
use Rattle.plain_layout.specs.Firsts.{named}
use Rattle.plain_layout.specs.Plain.{placed}
use Rattle.table_rules.proofs.FirstLaws.{valid_keeps, keeps_valid}
use Rattle.plain_layout.proofs.table.Table.first_broken.Goals as goal

pub returns-in-Some-clause-valid : goal.returns-in-Some-clause-valid
returns-in-Some-clause-valid c =
    let b = c.in-Some.ensures.first in (
      λ e. cc,
      λ valid. absurd (b.broken (valid_keeps (placed c.args.self.now) valid (named c.rule_of.result)
          c.in-Some.at b.here)),
    )

pub returns-clause-valid : goal.returns-clause-valid
returns-clause-valid c =
    let t = placed c.args.self.now in (
      λ e. keeps_valid t (λ rule low. c.rules.invariant rule
          (omega (arith, c.rules-test.false, c.last_rule-number-end.ensures))),
      λ valid. refl,
    )
