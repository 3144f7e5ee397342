use Rattle.std.proofs.Common.{◌≡◌, ◌≤◌, ◌*◌, ◌^◌}
use Rattle.std.specs.Prelude.{slice_index}
use Rattle.byte_ranges.specs.Lists.{sum_below}
use Rattle.size_class.specs.Rows.{cells_of}
use Rattle.move_cost.specs.Costs.{rate}
use Rattle.move_cost.proofs.weight.weighted.Given as goal

abbrev pub invariant-classes : goal.invariant-classes
invariant-classes g l = record {
  sum : l.sum ≡ sum_below l.c (λ c. slice_index (cells_of l.row) c * rate g.row.C
      (g.T.CostTable.cost_of l.table) c);
  high : l.sum ≤ l.c * 2 ^ 115;
}
