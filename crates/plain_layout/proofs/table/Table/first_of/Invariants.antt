use Rattle.std.proofs.Common.{◌<◌, ℕ}
use Rattle.table_rules.specs.Rules.{RuleAt}
use Rattle.plain_layout.specs.Firsts.{named}
use Rattle.plain_layout.specs.Plain.{placed}
use Rattle.plain_layout.proofs.table.Table.first_of.Given as goal

abbrev pub invariant-places : goal.invariant-places
invariant-places l = (i : ℕ) → i < l.at → RuleAt (named l.rule) (placed l.self) i
