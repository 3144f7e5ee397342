use Rattle.std.specs.Prelude.{List, ℕ}
use Rattle.std.proofs.Common.{subst}
use Rattle.store_model.specs.Begins.{BeginsServed}
use Rattle.store_model.specs.Quiet.{put_of}
use Rattle.store_model.proofs.BegunServeLaws.{begins_refused, begins_served}
use Rattle.store_model.proofs.PlanLaws.{accepted}
use Rattle.store_model.proofs.RefusedLaws.{refused_change_step, unaccepted}
use Rattle.store_core.proofs.store.Store.begin_put.Goals as goal

pub returns-in-Ok-clause-begins : goal.returns-in-Ok-clause-begins
returns-in-Ok-clause-begins g c =
    let is = accepted _ _ _ c.in-Ok.ensures.answer in
    begins_served (put_of c.args.name.now c.args.bytes.now) c.args.self.now c.begin_put_accepted.new.self
    (g.D.Disk.state c.args.disk.now) (g.D.Disk.state c.begin_put_accepted.new.disk)
    c.begin_put_accepted.result is.0
    (subst (λ (n : List ℕ). BeginsServed g.row.C (put_of n c.args.bytes.now) c.args.self.now
    c.begin_put_accepted.new.self (g.D.Disk.state c.args.disk.now)
    (g.D.Disk.state c.begin_put_accepted.new.disk) c.begin_put_accepted.result) is.1
    c.begin_put_accepted.ensures)

pub returns-in-Ok-clause-step : goal.returns-in-Ok-clause-step
returns-in-Ok-clause-step g c whole told =
    (subst (λ (n : List ℕ). BeginsServed g.row.C (put_of n c.args.bytes.now) c.args.self.now
    c.begin_put_accepted.new.self (g.D.Disk.state c.args.disk.now)
    (g.D.Disk.state c.begin_put_accepted.new.disk) c.begin_put_accepted.result)
    (accepted _ _ _ c.in-Ok.ensures.answer).1 c.begin_put_accepted.ensures).step told

pub returns-in-Err-clause-begins : goal.returns-in-Err-clause-begins
returns-in-Err-clause-begins g c = begins_refused (put_of c.args.name.now c.args.bytes.now)
    c.args.self.now (g.D.Disk.state c.args.disk.now) c.in-Err.refusal
    (unaccepted _ _ _ c.in-Err.ensures.answer) c.requires.ready c.requires.over

pub returns-in-Err-clause-step : goal.returns-in-Err-clause-step
returns-in-Err-clause-step g c whole told = refused_change_step c.args.self.now
    (g.D.Disk.state c.args.disk.now).file (put_of c.args.name.now c.args.bytes.now) c.in-Err.refusal whole
    (c.in-Err.ensures.sound whole c.requires.over.idle) (unaccepted _ _ _ c.in-Err.ensures.answer)
