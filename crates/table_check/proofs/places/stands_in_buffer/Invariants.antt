use Rattle.std.proofs.Common.{◌≡◌, ◌≤◌, ◌<◌, ℕ, false}
use Rattle.size_class.specs.Classes.{class_of}
use Rattle.table_rules.specs.Tables.{lies_in_buffer}
use Rattle.table_check.specs.Placed.{placed, ranked}
use Rattle.table_check.proofs.places.stands_in_buffer.Given as goal

abbrev pub invariant-buffers : goal.invariant-buffers
invariant-buffers l = (j : ℕ) → j < l.j → class_of (ranked l.table l.at).size ≤ j
    → lies_in_buffer (placed l.table l.frame) j (ranked l.table l.at) ≡ false
