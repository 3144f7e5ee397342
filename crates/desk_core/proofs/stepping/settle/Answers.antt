use Rattle.std.proofs.Common.{◌≡◌, ◌∙◌, arith, refl, subst, sym, Ok, Err}
use Rattle.store_model.specs.declared.answers.Progress.{Progress}
use Rattle.store_model.specs.declared.answers.Progress.TheVariants as progress
use Rattle.ask_text.specs.declared.ends.End.{End}
use Rattle.ask_text.specs.declared.ends.End.TheVariants as ends
use Rattle.desk_core.specs.Playing.{SettlesFlush, StepsFlush}
use Rattle.desk_core.proofs.SettleLaws.{settling_begins, settling_ends, settling_moves, settling_stops}
use Rattle.desk_core.proofs.stepping.settle.Goals as goal

pub steps-init : goal.steps-init
steps-init g c = record {
  going = settling_begins c.args.served.now.session c.args.served.now.store (g.D.Disk.state c.args.disk.now)
      c.requires.half c.requires.whole c.requires.ready;
  session = refl;
}

pub steps-preserved : goal.steps-preserved
steps-preserved g c =
    let same : c.in-Ok-Moved.field-0 ≡ progress.Moved = grind arith in
    let stepped : StepsFlush g.row.C c.args.served.now.session c.steps.served.store c.go_on.new.served.store
    (g.D.Disk.state c.steps.disk) (g.D.Disk.state c.go_on.new.disk) (Ok progress.Moved) =
    subst (λ n. StepsFlush g.row.C n c.steps.served.store c.go_on.new.served.store
    (g.D.Disk.state c.steps.disk) (g.D.Disk.state c.go_on.new.disk) (Ok progress.Moved))
    c.steps.invariant.session
    (subst (λ (p : Progress). StepsFlush g.row.C c.steps.served.session c.steps.served.store
    c.go_on.new.served.store (g.D.Disk.state c.steps.disk) (g.D.Disk.state c.go_on.new.disk) (Ok p)) same
    c.in-Ok-Moved.ensures.steps) in
    record {
      going = settling_moves c.args.served.now.session c.args.served.now.store c.steps.served.store
          c.go_on.new.served.store (g.D.Disk.state c.args.disk.now) (g.D.Disk.state c.steps.disk)
          (g.D.Disk.state c.go_on.new.disk) c.steps.invariant.going stepped;
      session = c.in-Ok-Moved.ensures.session ∙ c.steps.invariant.session;
    }

pub returns-in-Ok-Settled-clause-settles : goal.returns-in-Ok-Settled-clause-settles
returns-in-Ok-Settled-clause-settles g c =
    let same : c.in-Ok-Settled.field-0 ≡ progress.Settled = grind arith in
    let stepped : StepsFlush g.row.C c.args.served.now.session c.steps.served.store c.go_on.new.served.store
    (g.D.Disk.state c.steps.disk) (g.D.Disk.state c.go_on.new.disk) (Ok progress.Settled) =
    subst (λ n. StepsFlush g.row.C n c.steps.served.store c.go_on.new.served.store
    (g.D.Disk.state c.steps.disk) (g.D.Disk.state c.go_on.new.disk) (Ok progress.Settled))
    c.steps.invariant.session
    (subst (λ (p : Progress). StepsFlush g.row.C c.steps.served.session c.steps.served.store
    c.go_on.new.served.store (g.D.Disk.state c.steps.disk) (g.D.Disk.state c.go_on.new.disk) (Ok p)) same
    c.in-Ok-Settled.ensures.steps) in
    settling_ends c.args.served.now.session c.args.served.now.store c.steps.served.store
    c.go_on.new.served.store (g.D.Disk.state c.args.disk.now) (g.D.Disk.state c.steps.disk)
    (g.D.Disk.state c.go_on.new.disk) c.steps.invariant.going stepped

pub returns-in-Err-clause-settles : goal.returns-in-Err-clause-settles
returns-in-Err-clause-settles g c =
    let only : c.in-Err.end ≡ ends.Disk = c.in-Err.ensures.steps.only in
    let stepped : StepsFlush g.row.C c.args.served.now.session c.steps.served.store c.go_on.new.served.store
    (g.D.Disk.state c.steps.disk) (g.D.Disk.state c.go_on.new.disk) (Err ends.Disk) =
    subst (λ n. StepsFlush g.row.C n c.steps.served.store c.go_on.new.served.store
    (g.D.Disk.state c.steps.disk) (g.D.Disk.state c.go_on.new.disk) (Err ends.Disk))
    c.steps.invariant.session
    (subst (λ (e : End). StepsFlush g.row.C c.steps.served.session c.steps.served.store
    c.go_on.new.served.store (g.D.Disk.state c.steps.disk) (g.D.Disk.state c.go_on.new.disk) (Err e)) only
    c.in-Err.ensures.steps) in
    subst (λ (e : End). SettlesFlush g.row.C c.args.served.now.session c.args.served.now.store
    c.go_on.new.served.store (g.D.Disk.state c.args.disk.now) (g.D.Disk.state c.go_on.new.disk) (Err e))
    (sym only)
    (settling_stops c.args.served.now.session c.args.served.now.store c.steps.served.store
    c.go_on.new.served.store (g.D.Disk.state c.args.disk.now) (g.D.Disk.state c.steps.disk)
    (g.D.Disk.state c.go_on.new.disk) c.steps.invariant.going stepped)
