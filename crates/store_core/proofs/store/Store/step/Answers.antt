use Rattle.std.specs.Prelude.{◌≡◌, ◌-◌, None}
use Rattle.std.proofs.Common.{arith, inl, inr, lit<, refl, rules}
use Rattle.flush_run.specs.declared.whole.Halted.{Halted}
use Rattle.store_model.specs.declared.answers.Refusal.TheVariants as why
use Rattle.store_model.proofs.StepExitLaws.{step_counts, step_failed, step_more, step_moved_answers, step_moved_going, step_settled_answers, step_settled_whole, step_start}
use Rattle.store_core.proofs.LentLaws.{steps_from}
use Rattle.store_core.proofs.store.Store.step.Goals as goal

pub step-requires : goal.step-requires
step-requires g c =
    let x = steps_from c.self.inside c.args.self.now c.unwrap-phase.result c.deref_mut-hands.result.now
    (search rules) c.self.view_is c.self.invariant c.deref_mut-hands.ensures.value in (
      lit< tt,
      (
        lit< tt,
        (
          lit< tt,
          (
            c.requires.ready,
            (
              record { buffer = x.going.parts.buf; few = x.going.parts.classes },
              ((_, (step_start x c.requires.half).1), x.going.keeps),
            ),
          ),
        ),
      ),
    )

-- ---- an object was moved

pub invariant_of-self : goal.invariant_of-self
invariant_of-self g c =
    let x = steps_from c.self.inside c.args.self.now c.unwrap-phase.result c.deref_mut-hands.result.now
    (search rules) c.self.view_is c.self.invariant c.deref_mut-hands.ensures.value in
    let e = c.in-Ok.ensures in
    step_moved_going x c.requires.half c.step.new.hands (g.D.Disk.state c.step.new.disk) c.step.ensures.left
    Halted c.in-Ok.stepped e.made e.goes c.in-Moved.phase c.in-Moved.is e.keeps e.paid _
    (omega (arith, step_counts x))

pub returns-in-Moved : goal.returns-in-Moved
returns-in-Moved g c =
    let x = steps_from c.self.inside c.args.self.now c.unwrap-phase.result c.deref_mut-hands.result.now
    (search rules) c.self.view_is c.self.invariant c.deref_mut-hands.ensures.value in
    let e = c.in-Ok.ensures in
    let all = step_moved_answers x c.requires.half c.step.new.hands (g.D.Disk.state c.step.new.disk)
    c.step.ensures.left Halted c.in-Ok.stepped e.made e.goes c.in-Moved.phase c.in-Moved.is e.keeps
    e.paid (c.self.inside.began.left - 1) (omega (arith, step_counts x)) in
    record {
      answer = inl refl;
      more = step_more x;
      makes = all.makes;
      sums = all.sums;
      half = all.half;
      over = all.over;
      broken = x.going.unbroken;
      frame = all.frame;
      cause = record { later = e.cause.later; rose = tt; calm = e.cause.calm };
    }

-- ---- it was settled

pub invariant_of-self-in-Settled : goal.invariant_of-self-in-Settled
invariant_of-self-in-Settled g c =
    let x = steps_from c.self.inside c.args.self.now c.unwrap-phase.result c.deref_mut-hands.result.now
    (search rules) c.self.view_is c.self.invariant c.deref_mut-hands.ensures.value in
    let e = c.in-Ok.ensures in
    let none : c.take.new.self ≡ None = search rules in
    step_settled_whole x c.requires.half c.step.new.hands (g.D.Disk.state c.step.new.disk) c.step.ensures.left
    Halted c.in-Ok.stepped e.made e.goes c.in-Settled.field-0 c.in-Settled.is c.take.new.self none

pub returns-in-Settled : goal.returns-in-Settled
returns-in-Settled g c =
    let x = steps_from c.self.inside c.args.self.now c.unwrap-phase.result c.deref_mut-hands.result.now
    (search rules) c.self.view_is c.self.invariant c.deref_mut-hands.ensures.value in
    let e = c.in-Ok.ensures in
    let none : c.take.new.self ≡ None = search rules in
    let all = step_settled_answers x c.requires.half c.step.new.hands (g.D.Disk.state c.step.new.disk)
    c.step.ensures.left Halted c.in-Ok.stepped e.made e.goes c.in-Settled.field-0 c.in-Settled.is
    c.take.new.self none in
    record {
      answer = inr (inl refl);
      more = step_more x;
      makes = all.makes;
      sums = all.sums;
      half = all.half;
      over = all.over;
      broken = x.going.unbroken;
      frame = all.frame;
      cause = record { later = e.cause.later; rose = tt; calm = e.cause.calm };
    }

-- ---- the disk failed

pub returns-in-Err : goal.returns-in-Err
returns-in-Err g c =
    let x = steps_from c.self.inside c.args.self.now c.unwrap-phase.result c.deref_mut-hands.result.now
    (search rules) c.self.view_is c.self.invariant c.deref_mut-hands.ensures.value in
    let e = c.in-Err.ensures in
    let none : c.take.new.self ≡ None = search rules in
    let all = step_failed x c.requires.half c.step.new.hands (g.D.Disk.state c.step.new.disk)
    c.step.ensures.left why.Disk e.made c.take.new.self none in
    record {
      answer = inr (inr refl);
      more = step_more x;
      makes = all.makes;
      sums = all.sums;
      half = all.half;
      over = all.over;
      broken = refl;
      frame = all.frame;
      cause = record { later = e.cause.later; rose = e.cause.rose; calm = tt };
    }
