use Rattle.std.specs.Prelude.{List, ℕ}
use Rattle.std.proofs.Common.{subst}
use Rattle.store_model.specs.Flushes.{ServesChange}
use Rattle.store_model.specs.Quiet.{del_of}
use Rattle.store_model.proofs.ChangingLaws.{change_refused, change_served}
use Rattle.store_model.proofs.PlanLaws.{accepted}
use Rattle.store_model.proofs.RefusedLaws.{refused_change_step, unaccepted}
use Rattle.store_core.proofs.store.Store.del.Goals as goal

pub returns-in-Ok-clause-change : goal.returns-in-Ok-clause-change
returns-in-Ok-clause-change g c =
    let is = accepted _ _ _ c.in-Ok.ensures.answer in
    change_served (del_of c.args.name.now) c.args.self.now c.del_accepted.new.self
    (g.D.Disk.state c.args.disk.now) (g.D.Disk.state c.del_accepted.new.disk) c.del_accepted.result is.0
    (subst (λ (n : List ℕ). ServesChange g.row.C (del_of n) c.args.self.now c.del_accepted.new.self
    (g.D.Disk.state c.args.disk.now) (g.D.Disk.state c.del_accepted.new.disk) c.del_accepted.result) is.1
    c.del_accepted.ensures)

pub returns-in-Ok-clause-step : goal.returns-in-Ok-clause-step
returns-in-Ok-clause-step g c whole told =
    (subst (λ (n : List ℕ). ServesChange g.row.C (del_of n) c.args.self.now c.del_accepted.new.self
    (g.D.Disk.state c.args.disk.now) (g.D.Disk.state c.del_accepted.new.disk) c.del_accepted.result)
    (accepted _ _ _ c.in-Ok.ensures.answer).1 c.del_accepted.ensures).step told

pub returns-in-Err-clause-change : goal.returns-in-Err-clause-change
returns-in-Err-clause-change g c = change_refused (del_of c.args.name.now) c.args.self.now
    (g.D.Disk.state c.args.disk.now) c.in-Err.refusal (unaccepted _ _ _ c.in-Err.ensures.answer)
    c.requires.ready c.requires.over

pub returns-in-Err-clause-step : goal.returns-in-Err-clause-step
returns-in-Err-clause-step g c whole told = refused_change_step c.args.self.now
    (g.D.Disk.state c.args.disk.now).file (del_of c.args.name.now) c.in-Err.refusal whole
    (c.in-Err.ensures.sound whole c.requires.over.idle) (unaccepted _ _ _ c.in-Err.ensures.answer)
