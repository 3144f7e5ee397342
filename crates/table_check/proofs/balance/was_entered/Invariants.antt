use Rattle.std.proofs.Common.{◌≤◌, ◌<◌, ℕ}
use Rattle.size_class.specs.Classes.{cell}
use Rattle.table_rules.specs.Tables.{live_in_buffer}
use Rattle.table_check.specs.Placed.{placed}
use Rattle.table_check.proofs.balance.was_entered.Given as goal

abbrev pub invariant-buffers : goal.invariant-buffers
invariant-buffers l = (j : ℕ) → j < l.j
    → live_in_buffer (placed l.table l.frame) j l.c ≤ cell l.frame.header.used j l.c
