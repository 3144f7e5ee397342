use Rattle.std.proofs.Common.{arith, ◌^◌}
use Rattle.size_class.specs.Classes.{zero_row}
use Rattle.size_class.proofs.ClassLaws.{zero_row-index}
use Rattle.layer_rows.proofs.VolumeLemmas.{set_within}
use Rattle.layer_rows.proofs.layouts.volumes.Goals as goal

pub returns : goal.returns
returns g c = λ d.
    rw (c.set-2.ensures, c.set.ensures, c.zero-row.ensures)
    (set_within _ c.args.second c.args.large (2 ^ 48) d
    (λ e. set_within zero_row c.args.first c.args.small (2 ^ 48) e (λ i. omega (arith, zero_row-index i))
    c.requires.small) c.requires.large)
