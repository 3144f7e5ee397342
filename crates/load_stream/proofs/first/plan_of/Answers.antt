use Rattle.std.proofs.Common.{◌<◌, ◌^◌, List, ℕ, arith, rules, subst, sym}
use Rattle.size_class.specs.declared.TheConstants.{CLASSES}
use Rattle.size_class.specs.Rows.{cells_of, rows_of}
use Rattle.segment_layout.specs.Shapes.{IsShape, end_of}
use Rattle.dump_stream.specs.Heads.{volumes_of_head}
use Rattle.load_stream.proofs.FirstLaws.{end_of_head, shape_of_head}
use Rattle.load_stream.proofs.first.plan_of.Goals as goal

pub of-requires : goal.of-requires
of-requires c =
    let shape : IsShape CLASSES c.args.k (cells_of c.args.head.volumes) (rows_of c.zero.result) =
    subst (IsShape CLASSES c.args.k (volumes_of_head c.args.head)) (sym c.zero.ensures)
    (shape_of_head c.args.k (omega arith) c.requires.head c.requires.ranges.divisor_low
    c.requires.ranges.divisor_high (omega arith)) in
    search rules

pub returns-clause-end : goal.returns-clause-end
returns-clause-end c =
    subst (λ (x : ℕ × List ℕ). end_of x.0 x.1 < 2 ^ 47)
    (λ i. (sym c.of.ensures.divisor i, sym c.of.ensures.caps i))
    (end_of_head c.args.k (omega arith) c.requires.head (omega arith))
