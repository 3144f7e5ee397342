use Rattle.std.specs.Prelude.{◌+◌, ◌*◌}
use Rattle.std.proofs.Common.{arith, lit<, refl}
use Rattle.store_model.specs.Charges.{change_of}
use Rattle.store_model.proofs.BegunServeLaws.{begin_done, begin_failed, begin_going}
use Rattle.store_model.proofs.CopyChargesLaws.{bytes_of_change}
use Rattle.store_model.proofs.FlushChangeLaws.{flush_can_run}
use Rattle.store_core.proofs.LentLaws.{lent_rest}
use Rattle.store_model.proofs.StartedLaws.{can_start}
use Rattle.store_core.proofs.store.Store.begin_flush.Goals as goal

pub start_change-begun-requires : goal.start_change-begun-requires
start_change-begun-requires g c =
    let r = lent_rest c.self.inside c.args.self.now c.deref_mut-hands.result.now c.self.view_is
    c.self.invariant c.requires.over.idle c.deref_mut-hands.ensures.value in
    let s = can_start r c.args.name.now c.args.bytes.now c.args.comes c.requires.nothing c.requires.served
    c.requires.charged c.requires.needs_flush in (
      lit< tt,
      (
        lit< tt,
        (
          lit< tt,
          (
            r.whole.classes,
            (r.whole.wide, (c.requires.nothing, (s.can, (s.before, (s.charged, s.loud))))),
          ),
        ),
      ),
    )

pub launch-requires : goal.launch-requires
launch-requires g c =
    let r = lent_rest c.self.inside c.args.self.now c.deref_mut-hands.result.now c.self.view_is
    c.self.invariant c.requires.over.idle c.deref_mut-hands.ensures.value in
    let begun = c.start_change-begun.ensures.begun in (
      lit< tt,
      (
        lit< tt,
        (
          c.requires.ready,
          flush_can_run _ c.args.self.now r.view r.whole _
              c.requires.served (g.D.Disk.state c.args.disk.now) c.requires.over
              c.start_change-begun.new.hands _ _
              c.args.bytes.now begun
              (bytes_of_change c.args.name.now c.args.bytes.now c.args.comes c.requires.nothing),
        ),
      ),
    )

pub invariant_of-self : goal.invariant_of-self
invariant_of-self g c =
    let r = lent_rest c.self.inside c.args.self.now c.deref_mut-hands.result.now c.self.view_is
    c.self.invariant c.requires.over.idle c.deref_mut-hands.ensures.value in
    begin_going _ c.args.self.now r.view r.whole
    (change_of c.args.name.now c.args.bytes.now c.args.comes) c.requires.served
    (g.D.Disk.state c.args.disk.now) c.requires.over c.start_change-begun.new.hands
    c.start_change-begun.result.phase c.start_change-begun.result.place c.args.bytes.now
    c.start_change-begun.ensures.begun
    (bytes_of_change c.args.name.now c.args.bytes.now c.args.comes c.requires.nothing)
    (record {
      sequence = c.sequence-sequence.result;
      moved = c.deref_mut-hands.result.now.ledger.moved;
      left = 2 * c.count.result + 1;
    }) c.sequence-sequence.ensures refl (omega (arith, c.count.ensures.value)) c.requires.needs_flush (g.D.Disk.state c.launch.new.disk)
    c.launch.ensures.left c.launch.ensures.most c.launch.ensures.frame c.start_change-begun.ensures.keeps

pub returns-in-Ok : goal.returns-in-Ok
returns-in-Ok g c =
    let r = lent_rest c.self.inside c.args.self.now c.deref_mut-hands.result.now c.self.view_is
    c.self.invariant c.requires.over.idle c.deref_mut-hands.ensures.value in
    begin_done _ c.args.self.now r.view r.whole
    (change_of c.args.name.now c.args.bytes.now c.args.comes) c.requires.served
    (g.D.Disk.state c.args.disk.now) c.requires.over c.start_change-begun.new.hands
    c.start_change-begun.result.phase c.start_change-begun.result.place c.args.bytes.now
    c.start_change-begun.ensures.begun
    (bytes_of_change c.args.name.now c.args.bytes.now c.args.comes c.requires.nothing)
    (record {
      sequence = c.sequence-sequence.result;
      moved = c.deref_mut-hands.result.now.ledger.moved;
      left = 2 * c.count.result + 1;
    }) c.sequence-sequence.ensures refl (omega (arith, c.count.ensures.value)) c.requires.needs_flush (g.D.Disk.state c.launch.new.disk)
    c.launch.ensures.left c.launch.ensures.most c.launch.ensures.frame
    c.in-Ok.ensures.flies c.in-Ok.ensures.cause

pub returns-in-Err : goal.returns-in-Err
returns-in-Err g c =
    let r = lent_rest c.self.inside c.args.self.now c.deref_mut-hands.result.now c.self.view_is
    c.self.invariant c.requires.over.idle c.deref_mut-hands.ensures.value in
    rw r.none (begin_failed _ c.args.self.now r.view r.whole
    (change_of c.args.name.now c.args.bytes.now c.args.comes) c.requires.served
    (g.D.Disk.state c.args.disk.now) c.requires.over c.start_change-begun.new.hands
    c.start_change-begun.result.phase c.start_change-begun.result.place c.args.bytes.now
    c.start_change-begun.ensures.begun
    (bytes_of_change c.args.name.now c.args.bytes.now c.args.comes c.requires.nothing)
    (record {
      sequence = c.sequence-sequence.result;
      moved = c.deref_mut-hands.result.now.ledger.moved;
      left = 2 * c.count.result + 1;
    }) c.sequence-sequence.ensures refl (omega (arith, c.count.ensures.value)) c.requires.needs_flush (g.D.Disk.state c.launch.new.disk)
    c.launch.ensures.left c.launch.ensures.most c.launch.ensures.frame _ c.in-Err.ensures.cause)
