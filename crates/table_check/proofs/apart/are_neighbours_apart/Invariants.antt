use Rattle.std.proofs.Common.{◌≡◌, ◌≤◌, ◌<◌, ◌+◌, ◌-◌, ℕ}
use Rattle.std.specs.Prelude.{slice_index}
use Rattle.table_rules.specs.Tables.{end_of_record}
use Rattle.table_check.specs.Placed.{ranked}
use Rattle.table_check.proofs.apart.are_neighbours_apart.Given as goal

abbrev pub invariant-records : goal.invariant-records
invariant-records l = record {
  near : (p : ℕ) → p + 1 < l.at → end_of_record (ranked l.table (slice_index l.order p))
      ≤ (ranked l.table (slice_index l.order (p + 1))).place;
  none : l.at ≡ 0 → l.end ≡ 0;
  last : 0 < l.at → l.end ≡ end_of_record (ranked l.table (slice_index l.order (l.at - 1)));
}
