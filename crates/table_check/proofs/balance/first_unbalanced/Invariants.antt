use Rattle.std.proofs.Common.{◌<◌, ℕ}
use Rattle.table_rules.specs.Rules.{Balances}
use Rattle.table_check.specs.Placed.{placed}
use Rattle.table_check.proofs.balance.first_unbalanced.Given as goal

abbrev pub invariant-classes : goal.invariant-classes
invariant-classes l = (i : ℕ) → i < l.c → Balances (placed l.table l.frame) i
