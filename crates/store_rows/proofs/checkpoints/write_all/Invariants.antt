use Rattle.std.proofs.Common.{IsTrue}
use Rattle.store_rows.proofs.checkpoints.write_all.Given as goal

abbrev pub invariant-objects : goal.invariant-objects
invariant-objects g l = record {
  ready : IsTrue (g.D.Disk.state l.disk).is_ready;
  tells : IsTrue (g.D.Disk.state l.disk).tells;
}
