use Rattle.std.proofs.Common.{◌≡◌, ◌+◌, ◌-◌, ◌^◌}
use Rattle.std.specs.Prelude.{min, sum_by}
use Rattle.byte_ranges.specs.Lists.{counting_from}
use Rattle.segment_layout.specs.Shapes.{buffer_of, start_of}
use Rattle.table_rules.specs.Tables.{table_boundary, live}
use Rattle.plain_layout.specs.Plain.{placed}
use Rattle.plain_layout.proofs.table.Table.new_end.Given as goal

abbrev pub invariant-classes : goal.invariant-classes
invariant-classes l = l.end ≡ min (start_of l.self.k l.self.header.caps (table_boundary (placed l.self))
    + sum_by (λ c. live (placed l.self) c + buffer_of l.self.k (live (placed l.self) c))
    (counting_from (table_boundary (placed l.self)) (l.c - table_boundary (placed l.self)))) (2 ^ 128 - 1)
