use Rattle.std.proofs.Common.{arith, ap, ◌∙◌, ◌≡◌, ◌<◌, length, slice_index}
use Rattle.size_class.specs.Rows.{cells_of}
use Rattle.size_class.proofs.RowLaws.{row_shape}
use Rattle.segment_layout.specs.Layouts.{divisor_of, caps_of}
use Rattle.flush_model.proofs.PlaceLaws.{cells_more, segment_is, start_adds}
use Rattle.segment_layout.proofs.ShapeLaws.{end_of-next}
use Rattle.segment_layout.specs.Shapes.{start_of}
use Rattle.flush_model.proofs.segments.starts_of.Goals as goal

pub overflow_add-at-in-classes : goal.overflow_add-at-in-classes
overflow_add-at-in-classes g c =
    let layout = c.args.layout.now in
    let d = c.classes.class in
    let cap : c.get-cap.result ≡ slice_index (caps_of layout) d =
    c.get-cap.ensures ∙ ap (λ xs. slice_index xs d) c.caps-caps.ensures in
    omega (
      arith,
      segment_is (divisor_of layout) c.k-k.result (slice_index (caps_of layout) d) c.get-cap.result
          c.k-k.ensures cap,
      c.classes.invariant.1,
      start_adds layout d (omega (arith, c.classes-test.true, c.requires.fits)),
    )

pub classes-preserved : goal.classes-preserved
classes-preserved g c =
    let layout = c.args.layout.now in
    let k = divisor_of layout in
    let caps = caps_of layout in
    let d = c.classes.class in
    let cap : c.get-cap.result ≡ slice_index caps d =
    c.get-cap.ensures ∙ ap (λ xs. slice_index xs d) c.caps-caps.ensures in
    let within : d < length (cells_of c.classes.starts) =
    omega (arith, c.classes-test.true, (row_shape c.classes.starts).full, c.requires.fits) in (
      omega (arith, c.classes-test.true),
      omega (
        arith,
        segment_is k c.k-k.result (slice_index caps d) c.get-cap.result c.k-k.ensures cap,
        c.classes.invariant.1,
        end_of-next k caps d
            (omega (arith, c.classes-test.true, c.requires.fits, (row_shape layout.caps).full)),
      ),
      λ x below. ap (λ xs. slice_index xs x) c.set.ensures
          ∙ cells_more (start_of k caps) 0 d c.classes.at (cells_of c.classes.starts) within
          c.classes.invariant.1 (λ y low high. c.classes.invariant.2 y high) x (omega arith) below,
    )
