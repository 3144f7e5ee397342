use Rattle.std.proofs.Common.{◌≤◌, ◌<◌, ℕ}
use Rattle.std.specs.Prelude.{IsTrue}
use Rattle.table_rules.specs.Tables.{is_suffix, nth}
use Rattle.plain_layout.specs.Plain.{placed}
use Rattle.plain_layout.proofs.table.Table.slack_suffices.Given as goal

abbrev pub invariant-records : goal.invariant-records
invariant-records l = (i : ℕ) → i < l.i → IsTrue (is_suffix (placed l.self) (nth (placed l.self) i))
    → (nth (placed l.self) i).size ≤ l.self.header.slack
