use Rattle.std.proofs.Common.{arith, sym}
use Rattle.std.specs.Prelude.{slice_index}
use Rattle.size_class.specs.Rows.{cells_of}
use Rattle.move_cost.proofs.CostLaws.{sum_below_next, sum_below_none}
use Rattle.work_session.proofs.summary.total.Goals as goal

pub classes-init : goal.classes-init
classes-init g c = record { sum = sym (sum_below_none _); high = omega arith }

pub classes-preserved : goal.classes-preserved
classes-preserved g c = record {
  sum = omega (
    arith,
    c.classes.invariant.sum,
    c.get.ensures,
    sum_below_next c.classes.c (slice_index (cells_of c.args.row.now)),
  );
  high = omega (arith, c.classes.invariant.high);
}
