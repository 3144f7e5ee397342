use Rattle.std.proofs.Common.{arith, sym, ap, ◌∙◌, ◌≡◌}
use Rattle.segment_layout.specs.Shapes.{is_boundary}
use Rattle.segment_layout.proofs.ShapeLaws.{boundary_of-greatest, boundary_zero}
use Rattle.plain_layout.proofs.book.Book.boundary.Goals as goal

pub returns-else-not-is_boundary-clause-same : goal.returns-else-not-is_boundary-clause-same
returns-else-not-is_boundary-clause-same c =
    let used = c.args.self.now.used in
    boundary_of-greatest used c.args.i c.boundaries.b c.boundaries.invariant.within
    (sym c.is_boundary.ensures ∙ c.if-not-is_boundary.false) c.boundaries.invariant.none

pub returns-after-boundaries-clause-same : goal.returns-after-boundaries-clause-same
returns-after-boundaries-clause-same c =
    let used = c.args.self.now.used in
    let e : 0 ≡ c.boundaries.b = omega arith in
    boundary_of-greatest used c.args.i c.boundaries.b c.boundaries.invariant.within
    (ap (is_boundary used) (sym e) ∙ boundary_zero used) c.boundaries.invariant.none
