use Rattle.std.proofs.Common.{◌≡◌}
use Rattle.desk_core.specs.Playing.{left_of}
use Rattle.desk_core.proofs.SettleLaws.{IsSettling}
use Rattle.desk_core.proofs.stepping.settle.Given as goal

abbrev pub invariant-steps : goal.invariant-steps
invariant-steps g l = record {
  going : IsSettling g.row.C l.fn.served.session l.fn.served.store l.served.store
      (g.D.Disk.state l.fn.disk) (g.D.Disk.state l.disk);
  session : l.served.session ≡ l.fn.served.session;
}

abbrev pub decreases-steps : goal.decreases-steps
decreases-steps g l = left_of l.served.store.in_hand
