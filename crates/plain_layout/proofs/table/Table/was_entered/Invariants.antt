use Rattle.std.proofs.Common.{◌≤◌, ◌<◌, ℕ}
use Rattle.size_class.specs.Classes.{cell}
use Rattle.table_rules.specs.Tables.{live_in_buffer}
use Rattle.plain_layout.specs.Plain.{placed}
use Rattle.plain_layout.proofs.table.Table.was_entered.Given as goal

abbrev pub invariant-buffers : goal.invariant-buffers
invariant-buffers l = (j : ℕ) → j < l.j → live_in_buffer (placed l.self) j l.c ≤ cell l.self.header.used j l.c
