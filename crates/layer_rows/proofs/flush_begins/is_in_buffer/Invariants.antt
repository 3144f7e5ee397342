use Rattle.std.proofs.Common.{◌-◌, ◌≤◌}
use Rattle.layer_rows.proofs.flush_begins.is_in_buffer.Given as goal

abbrev pub invariant-buffers : goal.invariant-buffers
invariant-buffers g l = l.item.class ≤ l.j

abbrev pub decreases-buffers : goal.decreases-buffers
decreases-buffers g l = g.row.C - l.j
