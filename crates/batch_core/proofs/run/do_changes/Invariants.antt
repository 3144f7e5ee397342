use Rattle.std.proofs.Common.{length}
use Rattle.batch_core.specs.Doing.{Batch, CanDo, IsDoing}
use Rattle.batch_core.specs.StoresOn.{store_on}
use Rattle.batch_core.proofs.run.do_changes.Given as goal

abbrev pub invariant-parts : goal.invariant-parts
invariant-parts g l = (b : Batch) → CanDo g.row.C (store_on l.fn.store (g.D.Disk.state l.fn.disk)) l.text b
    → IsDoing g.row.C b (store_on l.fn.store (g.D.Disk.state l.fn.disk))
    (store_on l.store (g.D.Disk.state l.disk)) l.rest

abbrev pub decreases-parts : goal.decreases-parts
decreases-parts g l = length l.rest
