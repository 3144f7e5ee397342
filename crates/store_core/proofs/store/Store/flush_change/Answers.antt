use Rattle.std.proofs.Common.{◌∙◌, ap, lit<}
use Rattle.flush_run.specs.Parts.{HandsValue}
use Rattle.flush_run.specs.Shelved.{phase_now}
use Rattle.store_model.specs.Charges.{change_of}
use Rattle.store_model.proofs.CopyChargesLaws.{bytes_of_change}
use Rattle.store_model.proofs.FlushChangeLaws.{flush_can_run, flush_done, flush_done_whole, flush_failed}
use Rattle.store_core.proofs.LentLaws.{lent_rest}
use Rattle.store_model.proofs.StartedLaws.{can_start}
use Rattle.store_core.proofs.store.Store.flush_change.Goals as goal

pub start_change-begun-requires : goal.start_change-begun-requires
start_change-begun-requires g c =
    let r = lent_rest c.self.inside c.args.self.now c.deref_mut-hands.result.now c.self.view_is
    c.self.invariant c.requires.over.idle c.deref_mut-hands.ensures.value in
    let s = can_start r c.args.name.now c.args.bytes.now c.args.comes c.requires.nothing c.requires.served
    c.requires.charged c.requires.needs_flush in (
      lit< tt,
      (
        lit< tt,
        (
          lit< tt,
          (
            r.whole.classes,
            (r.whole.wide, (c.requires.nothing, (s.can, (s.before, (s.charged, s.loud))))),
          ),
        ),
      ),
    )

pub make_flush-made-requires : goal.make_flush-made-requires
make_flush-made-requires g c =
    let r = lent_rest c.self.inside c.args.self.now c.deref_mut-hands.result.now c.self.view_is
    c.self.invariant c.requires.over.idle c.deref_mut-hands.ensures.value in
    let begun = c.start_change-begun.ensures.begun in (
      lit< tt,
      (
        lit< tt,
        (
          c.requires.ready,
          (
            ap (λ (y : HandsValue). y.buffer) begun.rest ∙ r.whole.buf,
            (
              r.whole.classes,
              (
                flush_can_run _ c.args.self.now r.view r.whole _
                    c.requires.served (g.D.Disk.state c.args.disk.now) c.requires.over
                    c.start_change-begun.new.hands _ _
                    c.args.bytes.now begun
                    (bytes_of_change c.args.name.now c.args.bytes.now c.args.comes c.requires.nothing),
                c.start_change-begun.ensures.keeps,
              ),
            ),
          ),
        ),
      ),
    )

pub returns-in-Ok : goal.returns-in-Ok
returns-in-Ok g c =
    let r = lent_rest c.self.inside c.args.self.now c.deref_mut-hands.result.now c.self.view_is
    c.self.invariant c.requires.over.idle c.deref_mut-hands.ensures.value in
    rw r.none (flush_done _ c.args.self.now r.view r.whole
    (change_of c.args.name.now c.args.bytes.now c.args.comes) c.requires.served
    (g.D.Disk.state c.args.disk.now) c.requires.over c.start_change-begun.new.hands
    (phase_now c.start_change-begun.result.phase.course c.start_change-begun.new.hands.table)
    c.start_change-begun.result.place c.args.bytes.now c.start_change-begun.ensures.begun
    (bytes_of_change c.args.name.now c.args.bytes.now c.args.comes c.requires.nothing)
    c.make_flush-made.new.hands (g.D.Disk.state c.make_flush-made.new.disk) c.make_flush-made.ensures.left
    c.make_flush-made.ensures.made c.requires.needs_flush c.in-Ok.ensures.ends c.in-Ok.ensures.saves.0
    c.in-Ok.ensures.saves.1 c.in-Ok.ensures.calls c.in-Ok.ensures.cause)

pub returns-in-Err : goal.returns-in-Err
returns-in-Err g c =
    let r = lent_rest c.self.inside c.args.self.now c.deref_mut-hands.result.now c.self.view_is
    c.self.invariant c.requires.over.idle c.deref_mut-hands.ensures.value in
    rw r.none (flush_failed _ c.args.self.now r.view r.whole
    (change_of c.args.name.now c.args.bytes.now c.args.comes) c.requires.served
    (g.D.Disk.state c.args.disk.now) c.requires.over c.start_change-begun.new.hands
    (phase_now c.start_change-begun.result.phase.course c.start_change-begun.new.hands.table)
    c.start_change-begun.result.place c.args.bytes.now c.start_change-begun.ensures.begun
    (bytes_of_change c.args.name.now c.args.bytes.now c.args.comes c.requires.nothing)
    c.make_flush-made.new.hands (g.D.Disk.state c.make_flush-made.new.disk) c.make_flush-made.ensures.left
    c.make_flush-made.ensures.made c.requires.needs_flush _ c.in-Err.ensures.cause)

pub invariant_of-self : goal.invariant_of-self
invariant_of-self g c =
    let r = lent_rest c.self.inside c.args.self.now c.deref_mut-hands.result.now c.self.view_is
    c.self.invariant c.requires.over.idle c.deref_mut-hands.ensures.value in
    rw r.none (flush_done_whole _ c.args.self.now r.view r.whole
    (change_of c.args.name.now c.args.bytes.now c.args.comes) c.requires.served
    (g.D.Disk.state c.args.disk.now) c.requires.over c.start_change-begun.new.hands
    (phase_now c.start_change-begun.result.phase.course c.start_change-begun.new.hands.table)
    c.start_change-begun.result.place c.args.bytes.now c.start_change-begun.ensures.begun
    (bytes_of_change c.args.name.now c.args.bytes.now c.args.comes c.requires.nothing)
    c.make_flush-made.new.hands (g.D.Disk.state c.make_flush-made.new.disk) c.make_flush-made.ensures.left
    c.make_flush-made.ensures.made c.requires.needs_flush c.in-Ok.ensures.ends c.in-Ok.ensures.saves.0
    c.in-Ok.ensures.saves.1)
