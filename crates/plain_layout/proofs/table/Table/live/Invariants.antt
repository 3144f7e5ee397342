use Rattle.std.proofs.Common.{◌≡◌, ◌≤◌, ◌*◌, ◌^◌, take}
use Rattle.std.specs.Prelude.{filter}
use Rattle.table_rules.specs.Tables.{is_of, size_sum}
use Rattle.plain_layout.proofs.table.Table.live.Given as goal

abbrev pub invariant-records : goal.invariant-records
invariant-records l = record {
  so_far : l.bytes ≡ size_sum (filter (λ r. is_of l.c r) (take l.at l.self.records.items));
  small : l.bytes ≤ l.at * 2 ^ 64;
}
