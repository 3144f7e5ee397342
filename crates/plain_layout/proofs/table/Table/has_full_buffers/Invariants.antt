use Rattle.std.proofs.Common.{◌≤◌, ◌<◌, ◌+◌, ◌^◌, ℕ}
use Rattle.size_class.specs.Classes.{cell}
use Rattle.segment_layout.specs.Shapes.{buffer_of, taken_in}
use Rattle.std.specs.Prelude.{slice_index}
use Rattle.plain_layout.proofs.table.Table.has_full_buffers.Given as goal

abbrev pub invariant-buffers : goal.invariant-buffers
invariant-buffers l = (j : ℕ) → j < l.j → 0 < cell l.self.header.used j l.c → (i : ℕ) → l.c ≤ i → i < j
    → buffer_of l.self.k (slice_index l.self.header.caps i) < taken_in l.self.header.used i + 2 ^ (l.c + 1)
