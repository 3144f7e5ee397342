use Rattle.std.proofs.Common.{rules, arith, ◌<◌}
use Rattle.size_class.specs.declared.TheConstants.{CLASSES, SIZE_MAX}
use Rattle.dump_stream.proofs.SumLaws.{class_in}
use Rattle.load_stream.proofs.next.stand.Goals as goal

pub get-before-requires : goal.get-before-requires
get-before-requires c =
    let low : c.class_of-class.result < CLASSES =
    omega (
      arith,
      class_in CLASSES SIZE_MAX c.args.size (omega arith) (omega arith)
          (omega arith),
      c.class_of-class.ensures.same,
    ) in
    search rules

pub get-requires : goal.get-requires
get-requires c =
    let low : c.class_of-class.result < CLASSES =
    omega (
      arith,
      class_in CLASSES SIZE_MAX c.args.size (omega arith) (omega arith)
          (omega arith),
      c.class_of-class.ensures.same,
    ) in
    search rules
