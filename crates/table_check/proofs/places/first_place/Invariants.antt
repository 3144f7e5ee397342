use Rattle.std.proofs.Common.{◌<◌, ℕ}
use Rattle.table_rules.specs.Rules.{RuleAt}
use Rattle.table_check.specs.PlaceRules.{named}
use Rattle.table_check.specs.Placed.{placed}
use Rattle.table_check.proofs.places.first_place.Given as goal

abbrev pub invariant-places : goal.invariant-places
invariant-places l = (i : ℕ) → i < l.at → RuleAt (named l.rule) (placed l.table l.frame) i
