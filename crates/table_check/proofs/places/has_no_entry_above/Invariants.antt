use Rattle.std.proofs.Common.{◌≡◌, ◌≤◌, ◌<◌, ◌⊎◌, ℕ}
use Rattle.size_class.specs.Classes.{cell}
use Rattle.table_rules.specs.Tables.{table_boundary}
use Rattle.table_check.specs.Placed.{placed}
use Rattle.table_check.proofs.places.has_no_entry_above.Given as goal

abbrev pub invariant-classes : goal.invariant-classes
invariant-classes l = (d : ℕ) → d < l.d → (table_boundary (placed l.table l.frame) ≤ l.j) ⊎ (l.j < d)
    → cell l.frame.header.used l.j d ≡ 0
