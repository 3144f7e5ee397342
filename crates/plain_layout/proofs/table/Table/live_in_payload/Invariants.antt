use Rattle.std.proofs.Common.{◌≡◌, ◌≤◌, ◌*◌, ◌^◌, take}
use Rattle.std.specs.Prelude.{◌&&◌, filter}
use Rattle.plain_layout.specs.Plain.{placed}
use Rattle.table_rules.specs.Tables.{is_of, lies_in_payload, size_sum}
use Rattle.plain_layout.proofs.table.Table.live_in_payload.Given as goal

abbrev pub invariant-records : goal.invariant-records
invariant-records l = record {
  so_far : l.bytes ≡ size_sum (filter (λ r. is_of l.c r && lies_in_payload (placed l.self) l.c r)
      (take l.at l.self.records.items));
  small : l.bytes ≤ l.at * 2 ^ 64;
}
