use Rattle.std.proofs.Common.{◌≡◌, ◌≤◌, ◌+◌, ◌-◌, ◌*◌, ◌^◌}
use Rattle.std.specs.Prelude.{sum_by}
use Rattle.byte_ranges.specs.Lists.{counting_from}
use Rattle.segment_layout.specs.Shapes.{buffer_of, start_of}
use Rattle.table_rules.specs.Tables.{live, table_boundary}
use Rattle.table_check.specs.Placed.{placed}
use Rattle.table_check.proofs.room.new_end.Given as goal

abbrev pub invariant-classes : goal.invariant-classes
invariant-classes l = record {
  so_far : l.end ≡ start_of l.frame.k l.frame.header.caps (table_boundary (placed l.table l.frame))
      + sum_by (λ c. live (placed l.table l.frame) c + buffer_of l.frame.k (live (placed l.table l.frame) c))
      (counting_from (table_boundary (placed l.table l.frame))
      (l.c - table_boundary (placed l.table l.frame)));
  small : l.end ≤ 2 ^ 54 + l.c * 2 ^ 65;
}
