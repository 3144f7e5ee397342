use Rattle.std.proofs.Common.{◌≡◌, ◌≤◌, ◌*◌, ◌^◌}
use Rattle.std.specs.Prelude.{◌&&◌, nat_lt, filter, take}
use Rattle.table_rules.specs.Tables.{is_below_wall, size_sum}
use Rattle.plain_layout.specs.Plain.{placed}
use Rattle.plain_layout.proofs.table.Table.sizes_above.Given as goal

abbrev pub invariant-records : goal.invariant-records
invariant-records l = record {
  so_far : l.bytes ≡ size_sum (filter (λ r. is_below_wall (placed l.self) r && nat_lt l.place r.place)
      (take l.at l.self.records.items));
  small : l.bytes ≤ l.at * 2 ^ 64;
}
