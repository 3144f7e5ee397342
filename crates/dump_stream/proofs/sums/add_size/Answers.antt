use Rattle.std.proofs.Common.{arith, rules, ap, ◌∙◌, ◌+◌, ◌-◌, ◌^◌, ◌<◌, List, ℕ}
use Rattle.std.specs.Prelude.{min, slice_index, slice_set}
use Rattle.size_class.specs.Classes.{class_of}
use Rattle.size_class.specs.Rows.{cells_of}
use Rattle.size_class.specs.declared.TheConstants.{SIZE_MAX}
use Rattle.dump_stream.proofs.SumLaws.{class_in, empty_more, some_more}
use Rattle.dump_stream.proofs.sums.add_size.Goals as goal

pub add-requires : goal.add-requires
add-requires g c =
    let low : c.class_of.result < g.row.C =
    omega (
      arith,
      class_in g.row.C SIZE_MAX c.args.size c.requires.wide c.requires.small c.if-size-gt0.true,
      c.class_of.ensures.same,
    ) in
    search rules

pub returns-then-size-gt0 : goal.returns-then-size-gt0
returns-then-size-gt0 g c = λ sizes short each is.
    c.add.ensures
    ∙ ap (λ (k : ℕ). slice_set (cells_of c.args.volumes.now) k
    (min (slice_index (cells_of c.args.volumes.now) k + c.args.size) (2 ^ 64 - 1))) c.class_of.ensures.same
    ∙ ap (λ (xs : List ℕ). slice_set xs (class_of c.args.size)
    (min (slice_index xs (class_of c.args.size) + c.args.size) (2 ^ 64 - 1))) is
    ∙ some_more sizes c.args.size SIZE_MAX c.requires.small (omega arith) short each c.if-size-gt0.true
    (omega (
      arith,
      class_in g.row.C SIZE_MAX c.args.size c.requires.wide c.requires.small c.if-size-gt0.true,
      c.requires.fits,
    ))

pub returns-else-size-gt0 : goal.returns-else-size-gt0
returns-else-size-gt0 g c = λ sizes short each is.
    is ∙ empty_more sizes c.args.size (omega (arith, c.if-size-gt0.false))
