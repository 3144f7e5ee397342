use Rattle.std.proofs.Common.{◌≡◌, ◌≤◌, ◌<◌, ◌⊎◌, ℕ}
use Rattle.plain_layout.specs.Plain.{placed}
use Rattle.table_rules.specs.Tables.{table_boundary}
use Rattle.size_class.specs.Classes.{cell}
use Rattle.plain_layout.proofs.table.Table.has_no_entry_above.Given as goal

abbrev pub invariant-classes : goal.invariant-classes
invariant-classes l = (d : ℕ) → d < l.d → (table_boundary (placed l.self) ≤ l.j) ⊎ (l.j < d)
    → cell l.self.header.used l.j d ≡ 0
