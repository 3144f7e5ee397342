use Rattle.std.proofs.Common.{◌≡◌, ◌≤◌, ◌*◌, ◌^◌, take}
use Rattle.std.specs.Prelude.{sum}
use Rattle.plain_layout.proofs.table.sum_of.Given as goal

abbrev pub invariant-cells : goal.invariant-cells
invariant-cells l = record {
  so_far : l.all ≡ sum (take l.taken-index l.row);
  small : l.all ≤ l.taken-index * 2 ^ 64;
}
