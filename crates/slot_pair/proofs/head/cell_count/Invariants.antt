use Rattle.std.proofs.Common.{◌≡◌, ◌≤◌}
use Rattle.slot_pair.proofs.HeadLaws.{cells_until}
use Rattle.slot_pair.proofs.head.cell_count.Given as goal

abbrev pub invariant-cells : goal.invariant-cells
invariant-cells l = (l.count ≡ cells_until l.header l.number) × (l.count ≤ l.number)
