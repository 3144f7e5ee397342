use Rattle.std.proofs.Common.{◌≡◌, ◌≤◌, ◌*◌, ◌^◌}
use Rattle.byte_ranges.specs.Lists.{sum_below}
use Rattle.plain_layout.specs.Plain.{placed}
use Rattle.table_rules.specs.Tables.{dead_in_buffer}
use Rattle.plain_layout.proofs.table.Table.dead.Given as goal

abbrev pub invariant-buffers : goal.invariant-buffers
invariant-buffers l = record {
  so_far : l.bytes ≡ sum_below l.j (λ j. dead_in_buffer (placed l.self) j l.c);
  small : l.bytes ≤ l.j * 2 ^ 64;
}
