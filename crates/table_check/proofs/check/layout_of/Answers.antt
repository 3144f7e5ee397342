use Rattle.std.proofs.Common.{lit<, subst}
use Rattle.segment_layout.specs.Shapes.{IsShape}
use Rattle.extent_table.specs.Extents.{records_of}
use Rattle.table_check.proofs.RuleLaws.{shape_of_frame}
use Rattle.table_check.proofs.check.layout_of.Goals as goal

pub of-requires-3 : goal.of-requires-3
of-requires-3 g c =
    let f = c.args.frame.now in
    let shape = shape_of_frame f (records_of c.args.table.now.now) c.requires.valid in (
      lit< tt,
      (
        lit< tt,
        (
          lit< tt,
          rw (c.of.ensures, c.of-2.ensures)
              (subst (λ classes. IsShape classes f.k f.header.caps f.header.used) c.requires.same shape),
        ),
      ),
    )
