use Rattle.std.proofs.Common.{◌≤◌, ◌<◌, ◌^◌, ℕ}
use Rattle.size_class.specs.Classes.{cell}
use Rattle.table_check.proofs.places.has_least_entries.Given as goal

abbrev pub invariant-buffers : goal.invariant-buffers
invariant-buffers l = (j : ℕ) → j < l.j → 0 < cell l.frame.header.used j l.c
    → 2 ^ l.c ≤ cell l.frame.header.used j l.c
