use Rattle.std.proofs.Common.{◌≡◌, ◌≤◌, ◌*◌, ◌^◌}
use Rattle.byte_ranges.specs.Lists.{sum_below}
use Rattle.table_rules.specs.Tables.{dead_in_buffer}
use Rattle.table_check.specs.Placed.{placed}
use Rattle.table_check.proofs.balance.dead_bytes.Given as goal

abbrev pub invariant-buffers : goal.invariant-buffers
invariant-buffers l = record {
  so_far : l.dead ≡ sum_below l.j (λ j. dead_in_buffer (placed l.table l.frame) j l.c);
  small : l.dead ≤ l.j * 2 ^ 48;
}
