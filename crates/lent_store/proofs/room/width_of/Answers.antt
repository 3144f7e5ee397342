use Rattle.std.proofs.Common.{arith}
use Rattle.size_class.proofs.ClassLaws.{class_below}
use Rattle.lent_store.proofs.room.width_of.Goals as goal

pub overflow_shl-result : goal.overflow_shl-result
overflow_shl-result c = omega (arith, c.class_of.ensures.same, class_below c.args.size)
