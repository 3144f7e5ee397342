use Rattle.std.proofs.Common.{◌≡◌, ◌≤◌, ◌<◌, ◌-◌, length}
use Rattle.std.specs.Prelude.{vec_capacity}
use Rattle.extent_table.specs.Extents.{records_of}
use Rattle.table_check.proofs.OverlapLaws.{AreApart}
use Rattle.table_check.proofs.apart.first_overlap.Given as goal

abbrev pub invariant-halves : goal.invariant-halves
invariant-halves l = record {
  ordered : l.low < l.high;
  within : l.high ≤ length (records_of l.table.now);
  apart : AreApart l.table l.low;
  overlap : AreApart l.table l.high → ⊥;
  capacity : vec_capacity l.order ≡ vec_capacity l.initial.order;
}

abbrev pub decreases-halves : goal.decreases-halves
decreases-halves l = l.high - l.low
