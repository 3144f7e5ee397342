-- The rules that hold, up to the first that is broken.
use Rattle.std.specs.Prelude.{ℕ, ◌<◌, ◌≤◌}
use Rattle.table_rules.specs.Tables.{TableInLayout}
use Rattle.table_rules.specs.Rules.{Rule, AllHold, number_of}

-- each rule with a lesser number holds at all its places
abbrev pub HoldBelow : ℕ → TableInLayout → Type 0
HoldBelow number t = (rule : Rule) → number_of rule < number → AllHold rule t

-- The least of the numbers below n at which P doesn't hold, or n where it holds at all.
pub record IsLeast (P : ℕ → Type 0) (n least : ℕ) : Type 0 where
  pub within : least ≤ n
  pub before : (i : ℕ) → i < least → P i
  pub broken : least < n → P least → ⊥
