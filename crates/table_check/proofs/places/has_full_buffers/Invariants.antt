use Rattle.std.proofs.Common.{◌≤◌, ◌<◌, ◌+◌, ◌^◌, ℕ}
use Rattle.std.specs.Prelude.{slice_index}
use Rattle.size_class.specs.Classes.{cell}
use Rattle.segment_layout.specs.Shapes.{buffer_of, taken_in}
use Rattle.table_check.proofs.places.has_full_buffers.Given as goal

abbrev pub invariant-buffers : goal.invariant-buffers
invariant-buffers l = (j : ℕ) → j < l.j → 0 < cell l.frame.header.used j l.c → (i : ℕ) → l.c ≤ i → i < j
    → buffer_of l.frame.k (slice_index l.frame.header.caps i) < taken_in l.frame.header.used i + 2 ^ (l.c + 1)
