use Rattle.std.proofs.Common.{refl, arith}
use Rattle.byte_ranges.specs.Lists.{sum_below, below}
use Rattle.plain_layout.proofs.table.Table.dead.Goals as goal

pub buffers-init : goal.buffers-init
unfolding sum_below below
buffers-init c = record { so_far = refl; small = omega arith }
