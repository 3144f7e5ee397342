use Rattle.std.proofs.Common.{◌≡◌, arith, ap, refl, subst, Ok, Err, inl}
use Rattle.store_model.specs.declared.answers.Progress.{Progress}
use Rattle.store_model.specs.declared.answers.Progress.TheVariants as progress
use Rattle.ask_text.specs.declared.ends.End.{End}
use Rattle.desk_model.specs.Desks.{StepsOn}
use Rattle.desk_core.specs.Playing.{StepsFlush}
use Rattle.desk_core.proofs.ImageLaws.{step_leaves, step_same}
use Rattle.desk_core.proofs.StepOnceLaws.{failed_steps, hand_none, hand_some, idle_steps, is_half, moved_steps, settled_steps, shows_at}
use Rattle.desk_core.proofs.stepping.step_once.Goals as goal

pub returns-then-not-in_hand-clause-plays : goal.returns-then-not-in_hand-clause-plays
returns-then-not-in_hand-clause-plays g c =
    let s = c.args.served.now.store in
    let n = c.args.served.now.session in
    let a = g.D.Disk.state c.args.disk.now in
    let out = g.O.Sink.state c.args.output.now in
    idle_steps n s s a a out (g.O.Sink.state c.put_idle.new.output) c.put_idle.result
    (hand_none s.in_hand c.in_hand.result c.in_hand.ensures (grind arith)) refl refl c.put_idle.ensures

pub go_on-requires : goal.go_on-requires
go_on-requires g c = (
  omega arith,
  (
    c.requires.ready,
    (
      is_half c.args.served.now.store (g.D.Disk.state c.args.disk.now) c.requires.over
          (hand_some c.args.served.now.store.in_hand c.in_hand.result c.in_hand.ensures (grind arith)),
      c.requires.whole,
    ),
  ),
)

pub returns-in-Ok-Moved-clause-plays : goal.returns-in-Ok-Moved-clause-plays
returns-in-Ok-Moved-clause-plays g c told desk shown =
    let s = c.args.served.now.store in
    let n = c.args.served.now.session in
    let a = g.D.Disk.state c.args.disk.now in
    let out = g.O.Sink.state c.args.output.now in
    let half = is_half s a c.requires.over (hand_some s.in_hand c.in_hand.result c.in_hand.ensures
    (grind arith))
    in
    let t = c.go_on.new.served.store in
    let d = g.D.Disk.state c.go_on.new.disk in
    let after = g.O.Sink.state c.put_moved.new.output in
    let same : c.in-Ok-Moved.field-0 ≡ progress.Moved = grind arith in
    shows_at (StepsOn desk.hand desk) t c.go_on.new.served.session n d.file out after c.put_moved.result
    c.in-Ok-Moved.ensures.session
    (moved_steps n s t a d out after c.put_moved.result half
    (subst (λ (p : Progress). StepsFlush g.row.C n s t a d (Ok p)) same c.in-Ok-Moved.ensures.steps)
    c.put_moved.ensures told desk shown)

pub returns-in-Ok-Settled-clause-plays : goal.returns-in-Ok-Settled-clause-plays
returns-in-Ok-Settled-clause-plays g c told desk shown =
    let s = c.args.served.now.store in
    let n = c.args.served.now.session in
    let a = g.D.Disk.state c.args.disk.now in
    let out = g.O.Sink.state c.args.output.now in
    let half = is_half s a c.requires.over (hand_some s.in_hand c.in_hand.result c.in_hand.ensures
    (grind arith))
    in
    let t = c.go_on.new.served.store in
    let d = g.D.Disk.state c.go_on.new.disk in
    let after = g.O.Sink.state c.put_kept.new.output in
    let same : c.in-Ok-Settled.field-0 ≡ progress.Settled = grind arith in
    shows_at (StepsOn desk.hand desk) t c.go_on.new.served.session n d.file out after c.put_kept.result
    c.in-Ok-Settled.ensures.session
    (settled_steps n s t a d out after c.put_kept.result half
    (subst (λ (p : Progress). StepsFlush g.row.C n s t a d (Ok p)) same c.in-Ok-Settled.ensures.steps)
    (rw c.in-Ok-Settled.ensures.session at c.put_kept.ensures) told desk shown)

pub returns-in-Err-clause-plays : goal.returns-in-Err-clause-plays
returns-in-Err-clause-plays g c told desk shown =
    let s = c.args.served.now.store in
    let n = c.args.served.now.session in
    let a = g.D.Disk.state c.args.disk.now in
    let out = g.O.Sink.state c.args.output.now in
    let half = is_half s a c.requires.over (hand_some s.in_hand c.in_hand.result c.in_hand.ensures
    (grind arith))
    in
    let t = c.go_on.new.served.store in
    let d = g.D.Disk.state c.go_on.new.disk in
    shows_at (StepsOn desk.hand desk) t c.go_on.new.served.session n d.file out out (Err c.in-Err.end)
    c.in-Err.ensures.session
    (failed_steps n s t a d out out (Err c.in-Err.end) half
    (ap (λ (e : End). Err e) c.in-Err.ensures.steps.only) refl told desk shown)

pub returns-then-not-in_hand-clause-calls : goal.returns-then-not-in_hand-clause-calls
returns-then-not-in_hand-clause-calls g c = inl (omega arith)

pub returns-in-Ok-Moved-clause-calls : goal.returns-in-Ok-Moved-clause-calls
returns-in-Ok-Moved-clause-calls g c = c.in-Ok-Moved.ensures.steps.calls

pub returns-in-Ok-Settled-clause-calls : goal.returns-in-Ok-Settled-clause-calls
returns-in-Ok-Settled-clause-calls g c = c.in-Ok-Settled.ensures.steps.calls

pub returns-in-Err-clause-calls : goal.returns-in-Err-clause-calls
returns-in-Err-clause-calls g c = c.in-Err.ensures.steps.calls

pub returns-then-not-in_hand-clause-images : goal.returns-then-not-in_hand-clause-images
returns-then-not-in_hand-clause-images g c told desk shown =
    let s = c.args.served.now.store in
    let a = g.D.Disk.state c.args.disk.now in
    step_same (StepsOn desk.hand desk) s s c.args.served.now.session a a desk c.put_idle.result shown refl
    refl

pub returns-in-Ok-Moved-clause-images : goal.returns-in-Ok-Moved-clause-images
returns-in-Ok-Moved-clause-images g c told desk shown = step_leaves c.args.served.now.store
    c.go_on.new.served.store (g.D.Disk.state c.args.disk.now) (g.D.Disk.state c.go_on.new.disk) desk
    (Ok c.in-Ok-Moved.field-0) c.put_moved.result (λ is. refl)
    (c.in-Ok-Moved.ensures.steps.images told desk shown)

pub returns-in-Ok-Settled-clause-images : goal.returns-in-Ok-Settled-clause-images
returns-in-Ok-Settled-clause-images g c told desk shown = step_leaves c.args.served.now.store
    c.go_on.new.served.store (g.D.Disk.state c.args.disk.now) (g.D.Disk.state c.go_on.new.disk) desk
    (Ok c.in-Ok-Settled.field-0) c.put_kept.result (λ is. refl)
    (c.in-Ok-Settled.ensures.steps.images told desk shown)

pub returns-in-Err-clause-images : goal.returns-in-Err-clause-images
returns-in-Err-clause-images g c told desk shown = step_leaves {T = Progress} {S = Unit {0}}
    c.args.served.now.store
    c.go_on.new.served.store (g.D.Disk.state c.args.disk.now) (g.D.Disk.state c.go_on.new.disk) desk
    (Err c.in-Err.end) (Err c.in-Err.end) (λ is. is) (c.in-Err.ensures.steps.images told desk shown)
