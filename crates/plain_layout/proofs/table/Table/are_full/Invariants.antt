use Rattle.std.proofs.Common.{◌≤◌, ◌<◌, ◌+◌, ◌^◌, ℕ}
use Rattle.segment_layout.specs.Shapes.{buffer_of, taken_in}
use Rattle.std.specs.Prelude.{slice_index}
use Rattle.plain_layout.proofs.table.Table.are_full.Given as goal

abbrev pub invariant-between : goal.invariant-between
invariant-between l = (i : ℕ) → l.c ≤ i → i < l.i
    → buffer_of l.self.k (slice_index l.self.header.caps i) < taken_in l.self.header.used i + 2 ^ (l.c + 1)
