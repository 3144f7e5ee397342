use Rattle.std.proofs.Common.{◌≤◌, ◌<◌, ℕ}
use Rattle.std.specs.Prelude.{IsTrue}
use Rattle.size_class.specs.Classes.{class_of}
use Rattle.table_rules.specs.Tables.{is_below_wall, nth}
use Rattle.plain_layout.specs.Plain.{placed}
use Rattle.plain_layout.proofs.table.Table.is_above_lesser.Given as goal

abbrev pub invariant-records : goal.invariant-records
invariant-records l = (h : ℕ) → h < l.h → IsTrue (is_below_wall (placed l.self) (nth (placed l.self) h))
    → (nth (placed l.self) h).place < (nth (placed l.self) l.at).place
    → class_of (nth (placed l.self) h).size ≤ class_of (nth (placed l.self) l.at).size
