use Rattle.std.proofs.Common.{◌≡◌, IsTrue, length}
use Rattle.std.specs.FinMap as fin
use Rattle.disk_face.specs.Frames.{Unchanged}
use Rattle.extent_table.specs.Extents.{IsTable}
use Rattle.store_model.proofs.RenewLaws.{AreRenewed}
use Rattle.store_core.proofs.renew.renew_all.Given as goal

abbrev pub invariant-names : goal.invariant-names
invariant-names g l = record {
  only : l.table ≡ record l.fn.table { digests = l.table.digests };
  table : IsTable l.table;
  renewed : IsTrue (g.D.Disk.state l.fn.disk).tells
      → AreRenewed l.base (g.D.Disk.state l.fn.disk).file l.fn.table.now l.n l.table.digests;
  end : l.n-end ≡ fin.len l.fn.table.now;
  room : length l.buf ≡ length l.fn.buf;
  frame : Unchanged (g.D.Disk.state l.fn.disk) (g.D.Disk.state l.disk);
  calm : (g.D.Disk.state l.disk).faults ≡ (g.D.Disk.state l.fn.disk).faults;
}
