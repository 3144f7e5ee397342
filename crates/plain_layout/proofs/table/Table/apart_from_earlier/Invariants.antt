use Rattle.std.proofs.Common.{◌<◌, ℕ}
use Rattle.plain_layout.specs.Plain.{placed}
use Rattle.table_rules.specs.Tables.{Apart, nth}
use Rattle.plain_layout.proofs.table.Table.apart_from_earlier.Given as goal

abbrev pub invariant-earlier : goal.invariant-earlier
invariant-earlier l = (h : ℕ) → h < l.h → Apart (nth (placed l.self) h) (nth (placed l.self) l.at)
