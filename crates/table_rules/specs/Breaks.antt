-- Where a table breaks a rule.
use Rattle.std.specs.Prelude.{ℕ, ◌<◌}
use Rattle.table_rules.specs.Rules.{Rule, RuleAt, places_of}
use Rattle.table_rules.specs.Tables.{TableInLayout}

-- a rule is broken at a place, and at no lesser one
pub record BreaksAt (rule : Rule) (t : TableInLayout) (at : ℕ) : Type 0 where
  pub here : at < places_of rule t
  pub before : (i : ℕ) → i < at → RuleAt rule t i
  pub broken : RuleAt rule t at → ⊥
