use Rattle.std.proofs.Common.{arith, ◌-◌}
use Rattle.move_cost.proofs.CostLaws.{unit_is, part_high}
use Rattle.move_cost.proofs.weight.weighted_class.Goals as goal

pub returns-clause-high : goal.returns-clause-high
returns-clause-high g c = part_high g.row.C (g.T.CostTable.cost_of c.args.table.now) c.args.c _ _ _
    (g.met.T.CostTable.is_cost c.args.table.now) c.requires.class c.requires.fits (omega arith) (omega arith)
    (unit_is (g.row.C - 1 - c.args.c) (omega (arith, c.requires.fits)))

pub overflow_mul-result-2 : goal.overflow_mul-result-2
overflow_mul-result-2 g c =
    omega (
      arith,
      part_high g.row.C
          (g.T.CostTable.cost_of c.args.table.now) c.args.c c.from.result c.from-cost.result _
          (g.met.T.CostTable.is_cost c.args.table.now) c.requires.class c.requires.fits (omega arith)
          (omega arith)
          (unit_is (g.row.C - 1 - c.args.c) (omega (arith, c.requires.fits))),
    )
