use Rattle.std.proofs.Common.{arith, ap}
use Rattle.size_class.specs.Classes.{class_of}
use Rattle.size_class.proofs.ClassLaws.{class_below}
use Rattle.table_check.proofs.NumberLaws.{class_of-great, class_of-zero}
use Rattle.table_check.proofs.spots.class_at.Goals as goal

pub returns-then-size-eq0-clause-same : goal.returns-then-size-eq0-clause-same
returns-then-size-eq0-clause-same c = omega (arith, class_of-zero, ap class_of c.if-size-eq0.true)

pub returns-then-size-clause-small : goal.returns-then-size-clause-small
returns-then-size-clause-small c = omega (arith, class_below c.args.size, c.class_of.ensures.same)

pub returns-else-size-clause-same : goal.returns-else-size-clause-same
returns-else-size-clause-same c = omega (arith, class_of-great c.args.size (omega arith))
