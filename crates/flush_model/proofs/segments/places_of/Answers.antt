use Rattle.std.proofs.Common.{arith, ap, ◌∙◌, ◌+◌, ◌<◌, length, slice_index, ℕ, refl}
use Rattle.size_class.specs.Rows.{cells_of}
use Rattle.size_class.proofs.RowLaws.{row_shape}
use Rattle.flush_model.proofs.PlaceLaws.{cells_more, segment_is, segments_fit, segments_next, segments_rest}
use Rattle.flush_model.specs.Plans.{segments_length}
use Rattle.size_class.specs.Classes.{width}
use Rattle.flush_model.proofs.segments.places_of.Goals as goal

pub overflow_add-at : goal.overflow_add-at
overflow_add-at g c =
    let volume : ℕ → ℕ = slice_index (cells_of c.args.volumes.now) in
    let d = c.classes.class in
    omega (
      arith,
      segment_is c.args.k c.args.k (volume d) c.get-volume.result refl c.get-volume.ensures,
      c.classes.invariant.2,
      c.requires.small,
      segments_fit c.args.k volume c.args.b d c.classes.invariant.0
          (omega (arith, c.classes-test.true, c.requires.fits)),
    )

pub overflow_add-at-in-classes : goal.overflow_add-at-in-classes
overflow_add-at-in-classes g c =
    let volume : ℕ → ℕ = slice_index (cells_of c.args.volumes.now) in
    let d = c.classes.class in
    omega (
      arith,
      segment_is c.args.k c.args.k (volume d) c.get-volume.result refl c.get-volume.ensures,
      c.classes.invariant.2,
      c.requires.small,
      segments_fit c.args.k volume c.args.b d c.classes.invariant.0
          (omega (arith, c.classes-test.true, c.requires.fits)),
    )

pub classes-preserved : goal.classes-preserved
classes-preserved g c =
    let volume : ℕ → ℕ = slice_index (cells_of c.args.volumes.now) in
    let d = c.classes.class in
    let within : d < length (cells_of c.classes.places) =
    omega (arith, c.classes-test.true, (row_shape c.classes.places).full, c.requires.fits) in (
      omega (arith, c.classes.invariant.0),
      omega (arith, c.classes-test.true),
      omega (
        arith,
        segment_is c.args.k c.args.k (volume d) c.get-volume.result refl c.get-volume.ensures,
        c.classes.invariant.2,
        segments_next c.args.k volume c.args.b d c.classes.invariant.0,
      ),
      λ x from below. ap (λ xs. slice_index xs x) c.set.ensures
          ∙ cells_more (λ y. c.args.start + segments_length c.args.k volume c.args.b y) c.args.b d
          c.classes.at (cells_of c.classes.places) within c.classes.invariant.2 c.classes.invariant.3 x from
          below,
    )

pub returns-clause-end : goal.returns-clause-end
returns-clause-end g c =
    let volume : ℕ → ℕ = slice_index (cells_of c.args.volumes.now) in
    omega (
      arith,
      c.classes.invariant.2,
      segments_rest c.args.k volume c.args.b c.classes.class width
          c.classes.invariant.0 (omega (arith, c.classes.invariant.1, c.requires.fits))
          (λ x past. (row_shape c.args.volumes.now).zero_above x (omega (arith, past, c.classes-test.false))),
    )
