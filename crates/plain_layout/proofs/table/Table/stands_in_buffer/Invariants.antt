use Rattle.std.proofs.Common.{◌≡◌, ◌≤◌, ◌<◌, ℕ, false}
use Rattle.size_class.specs.Classes.{class_of}
use Rattle.plain_layout.specs.Plain.{placed}
use Rattle.table_rules.specs.Tables.{lies_in_buffer, nth}
use Rattle.plain_layout.proofs.table.Table.stands_in_buffer.Given as goal

abbrev pub invariant-buffers : goal.invariant-buffers
invariant-buffers l = (j : ℕ) → j < l.j → class_of (nth (placed l.self) l.at).size ≤ j
    → lies_in_buffer (placed l.self) j (nth (placed l.self) l.at) ≡ false
