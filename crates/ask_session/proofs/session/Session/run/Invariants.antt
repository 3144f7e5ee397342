use Rattle.std.proofs.Common.{◌≡◌, ◌-◌, ◌≤◌, false}
use Rattle.store_model.specs.Stores.{IsStore}
use Rattle.ask_session.specs.Outside.{outside}
use Rattle.ask_session.specs.Runs.{HasRun}
use Rattle.ask_session.proofs.session.Session.run.Given as goal

abbrev pub invariant-turns : goal.invariant-turns
invariant-turns g l = record {
  few : l.n ≤ 4294967296;
  sound : l.self.store.is_broken ≡ false → IsStore g.row.C l.self.store;
  fresh : l.self.ended ≡ false;
  ran : HasRun g.row.C l.fn.self l.self
      (outside (g.D.Disk.state l.fn.disk) (g.I.Source.state l.fn.input) (g.O.Sink.state l.fn.output))
      (outside (g.D.Disk.state l.disk) (g.I.Source.state l.input) (g.O.Sink.state l.output)) l.n;
}

abbrev pub decreases-turns : goal.decreases-turns
decreases-turns g l = 4294967296 - l.n
