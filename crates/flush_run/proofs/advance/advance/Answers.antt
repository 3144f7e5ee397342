use Rattle.std.proofs.Common.{arith, refl, sym, subst}
use Rattle.logged_pair.specs.Slots.{used_in}
use Rattle.flush_run.specs.Parts.{parts_of}
use Rattle.flush_run.specs.Phases.{GoesOn, KeepsIn, PaidIn, items_in, phase_in}
use Rattle.flush_run.specs.declared.phase.Phase.{Phase}
use Rattle.flush_run.proofs.AdvanceLaws.{can_make, made_in, move_stops, on_err, over_in, step_advances, step_goes, step_keeps, step_pays}
use Rattle.flush_run.proofs.LeftLaws.{left_still, none_of}
use Rattle.flush_run.proofs.advance.advance.Goals as goal

pub next-requires : goal.next-requires
next-requires g c = (
  omega arith,
  over_in c.args.phase.now c.requires.start.1.on.goes c.requires.keeps,
)

pub make_move-requires : goal.make_move-requires
make_move-requires g c =
    let s = c.args.phase.now in
    let n = c.next.ensures in (
      omega arith,
      (
        c.requires.ready,
        (
          c.requires.buffer,
          (
            c.requires.fits,
            (
              c.requires.start.0,
              phase_in s c.args.hands.now.table,
              can_make s c.next.new.self c.saving.ensures c.requires.start.1 n.course n.rank
                  c.in-Some.ensures.step,
            ),
          ),
        ),
      ),
    )

pub returns-in_default-clause-goes : goal.returns-in_default-clause-goes
returns-in_default-clause-goes g c f can =
    subst (λ (s : Phase g.row.C). GoesOn f s (parts_of c.args.hands.now)
    (g.D.Disk.state c.args.disk.now))
    (sym (c.next.ensures.same (none_of c.next.result c.in_default.not-Some))) can.on

pub returns-in_default-clause-left : goal.returns-in_default-clause-left
returns-in_default-clause-left g c f can told =
    left_still f (used_in c.args.hands.now.slots) c.args.hands.now.table (g.D.Disk.state c.args.disk.now)
    (can.on.goes.flies told)

pub returns-in_default-clause-keeps : goal.returns-in_default-clause-keeps
returns-in_default-clause-keeps g c =
    subst (λ (s : Phase g.row.C). KeepsIn s (items_in s c.args.hands.now.table))
    (sym (c.next.ensures.same (none_of c.next.result c.in_default.not-Some))) c.requires.keeps

pub returns-in_default-clause-paid : goal.returns-in_default-clause-paid
returns-in_default-clause-paid g c q paid =
    subst (λ (s : Phase g.row.C). PaidIn q s (parts_of c.args.hands.now))
    (sym (c.next.ensures.same (none_of c.next.result c.in_default.not-Some))) paid

pub returns-in_default-clause-made : goal.returns-in_default-clause-made
returns-in_default-clause-made g c =
    let none = none_of c.next.result c.in_default.not-Some in
    record { phase = c.next.ensures.same none; parts = refl; end = c.next.ensures.end none }

pub returns-in_err-make_move-clause-left : goal.returns-in_err-make_move-clause-left
returns-in_err-make_move-clause-left g c f can told =
    let s = c.args.phase.now in
    let n = c.next.ensures in
    let p = phase_in s c.args.hands.now.table in
    c.make_move.ensures.left f p (can_make s c.next.new.self c.saving.ensures can n.course
    n.rank c.in-Some.ensures.step) told

pub returns-in_err-make_move-clause-stopped : goal.returns-in_err-make_move-clause-stopped
returns-in_err-make_move-clause-stopped g c =
    on_err c.from_residual.result (move_stops c.args.phase.now c.requires.start.1
    c.in-Some.ensures.step c.in_err-make_move.ensures.failed)

pub returns-clause-goes : goal.returns-clause-goes
returns-clause-goes g c f can =
    let s = c.args.phase.now in
    let n = c.next.ensures in
    let p = phase_in s c.args.hands.now.table in
    let made = made_in c.next.new.self c.saving.ensures c.in_ok-make_move.ensures.made in
    step_goes s c.next.new.self made n.course n.rank can.on
    (c.in_ok-make_move.ensures.goes f p (can_make s c.next.new.self c.saving.ensures can n.course
    n.rank c.in-Some.ensures.step))

pub returns-clause-left : goal.returns-clause-left
returns-clause-left g c f can told =
    let s = c.args.phase.now in
    let n = c.next.ensures in
    let p = phase_in s c.args.hands.now.table in
    c.make_move.ensures.left f p (can_make s c.next.new.self c.saving.ensures can n.course
    n.rank c.in-Some.ensures.step) told

pub returns-clause-keeps : goal.returns-clause-keeps
returns-clause-keeps g c =
    let made = made_in c.next.new.self c.saving.ensures c.in_ok-make_move.ensures.made in
    step_keeps c.args.phase.now c.next.new.self made c.next.ensures.course c.next.ensures.rank
    c.in-Some.ensures.keeps

pub returns-clause-paid : goal.returns-clause-paid
returns-clause-paid g c q paid =
    let made = made_in c.next.new.self c.saving.ensures c.in_ok-make_move.ensures.made in
    step_pays c.args.phase.now c.next.new.self made c.next.ensures.course c.next.ensures.rank
    c.requires.start.1.on c.in-Some.ensures.step q paid

pub returns-clause-made : goal.returns-clause-made
returns-clause-made g c =
    let made = made_in c.next.new.self c.saving.ensures c.in_ok-make_move.ensures.made in
    step_advances c.args.phase.now c.next.new.self made c.next.ensures.course
    c.next.ensures.rank c.in-Some.ensures.step c.args.hands.now.ledger.moved.shape.full
