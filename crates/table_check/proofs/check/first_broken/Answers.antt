use Rattle.std.proofs.Common.{arith}
use Rattle.table_check.specs.Placed.{placed}
use Rattle.table_check.proofs.RuleLaws.{hold_all}
use Rattle.table_check.proofs.check.first_broken.Goals as goal

pub returns-clause-valid : goal.returns-clause-valid
returns-clause-valid c = λ _. hold_all (placed c.args.table.now c.args.frame.now) c.rules.number
    (omega (arith, c.rules-test.false, c.last_rule-number-end.ensures)) c.rules.invariant.hold
