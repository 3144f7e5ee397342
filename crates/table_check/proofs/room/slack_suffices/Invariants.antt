use Rattle.std.proofs.Common.{◌≤◌, ◌<◌, ℕ}
use Rattle.std.specs.Prelude.{IsTrue}
use Rattle.table_rules.specs.Tables.{is_suffix}
use Rattle.table_check.specs.Placed.{placed, ranked}
use Rattle.table_check.proofs.room.slack_suffices.Given as goal

abbrev pub invariant-records : goal.invariant-records
invariant-records l = (i : ℕ) → i < l.rank → IsTrue (is_suffix (placed l.table l.frame) (ranked l.table i))
    → (ranked l.table i).size ≤ l.frame.header.slack
