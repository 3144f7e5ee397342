use Rattle.std.proofs.Common.{◌≡◌, ◌≤◌, ◌*◌, ◌^◌}
use Rattle.std.specs.Prelude.{slice_index}
use Rattle.byte_ranges.specs.Lists.{sum_below}
use Rattle.size_class.specs.Rows.{cells_of}
use Rattle.work_session.proofs.summary.total.Given as goal

abbrev pub invariant-classes : goal.invariant-classes
invariant-classes g l = record {
  sum : l.sum ≡ sum_below l.c (slice_index (cells_of l.row));
  high : l.sum ≤ l.c * 2 ^ 64;
}
