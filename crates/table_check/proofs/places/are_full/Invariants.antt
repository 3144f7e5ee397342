use Rattle.std.proofs.Common.{◌≤◌, ◌<◌, ◌+◌, ◌^◌, ℕ}
use Rattle.std.specs.Prelude.{slice_index}
use Rattle.segment_layout.specs.Shapes.{buffer_of, taken_in}
use Rattle.table_check.proofs.places.are_full.Given as goal

abbrev pub invariant-between : goal.invariant-between
invariant-between l = (i : ℕ) → l.c ≤ i → i < l.i
    → buffer_of l.frame.k (slice_index l.frame.header.caps i) < taken_in l.frame.header.used i + 2 ^ (l.c + 1)
