use Rattle.std.proofs.Common.{arith, ap}
use Rattle.std.specs.Prelude.{slice_index}
use Rattle.size_class.proofs.ClassLaws.{zero_row-index}
use Rattle.segment_layout.specs.Layouts.{grid_of}
use Rattle.segment_layout.proofs.ShapeLaws.{boundary_zero}
use Rattle.layer_rows.proofs.flush_begins.layout_of.Goals as goal

pub volumes-init : goal.volumes-init
volumes-init g c = λ x. omega (arith, ap (λ xs. slice_index xs x) c.zero-row.ensures, zero_row-index x)

pub settle-requires : goal.settle-requires
settle-requires g c = (
  omega arith,
  (
    omega arith,
    (
      c.requires.some,
      (
        c.requires.fits,
        (boundary_zero (grid_of c.empty-layout.result), λ x low. c.volumes.invariant x),
      ),
    ),
  ),
)
