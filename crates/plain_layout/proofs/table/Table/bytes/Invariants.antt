use Rattle.std.proofs.Common.{◌≡◌, ◌≤◌, ◌*◌, ◌^◌, take}
use Rattle.table_rules.specs.Tables.{size_sum}
use Rattle.plain_layout.proofs.table.Table.bytes.Given as goal

abbrev pub invariant-records : goal.invariant-records
invariant-records l = record {
  so_far : l.bytes ≡ size_sum (take l.at l.self.records.items);
  small : l.bytes ≤ l.at * 2 ^ 64;
}
