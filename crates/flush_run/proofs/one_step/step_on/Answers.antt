use Rattle.std.proofs.Common.{◌≡◌, ◌≤◌, arith, refl, ap, ◌∙◌}
use Rattle.disk_face.specs.Counts.{Rose}
use Rattle.logged_pair.specs.Slots.{used_in}
use Rattle.flush_run.specs.Parts.{HandsValue}
use Rattle.flush_run.proofs.AdvanceLaws.{over_in}
use Rattle.flush_run.proofs.LeftLaws.{left_wider}
use Rattle.flush_run.proofs.OneStepLaws.{at_false, at_true, found_end, one_begins, one_can, one_ended, one_falls, one_faults, one_hand, one_left, one_moved, one_paid, one_pays, one_ready, one_same, one_settles, one_stopped, one_told}
use Rattle.flush_run.proofs.one_step.step_on.Goals as goal

pub phases-init : goal.phases-init
phases-init g c = (refl, one_begins {C = g.row.C} _ _ _ c.requires.keeps)

pub advance-requires : goal.advance-requires
advance-requires g c =
    let i = c.phases.invariant.1 in (
      omega arith,
      (
        omega arith,
        (
          one_ready g.D.Disk.state c.phases.invariant.0 c.phases.invariant.1 c.requires.ready,
          (
            omega (arith, ap (λ (x : HandsValue). x.buffer) i.parts, c.requires.lent.buffer),
            (
              c.requires.lent.few,
              (
                (
                  c.requires.start.0,
                  one_can g.D.Disk.state c.phases.invariant.0 i c.requires.start.1,
                ),
                i.keeps,
              ),
            ),
          ),
        ),
      ),
    )

-- ---- a call of the move failed

pub returns-in-Err : goal.returns-in-Err
returns-in-Err g c =
    let state = g.D.Disk.state in
    let same = c.phases.invariant.0 in
    let i = c.phases.invariant.1 in
    let e = c.in-Err.ensures in
    record {
      goes = λ f can. tt;
      left = λ f can told. one_left state same i
          (c.advance.ensures.left f (one_can state same i can) (one_told state same i told));
      keeps = tt;
      paid = λ q paid. tt;
      made = one_stopped state same i e.stopped;
      cause = record {
        later = one_faults state same i (λ n. n ≤ (state c.advance.new.disk).faults) e.cause.later;
        rose = one_faults state same i (λ n. Rose n (state c.advance.new.disk).faults) e.cause.rose;
        calm = tt;
      };
    }

-- ---- it was made

pub returns-then-moved : goal.returns-then-moved
returns-then-moved g c =
    let state = g.D.Disk.state in
    let same = c.phases.invariant.0 in
    let i = c.phases.invariant.1 in
    let e = c.in-Ok.ensures in
    record {
      goes = λ f can. e.goes f (one_can state same i can);
      left = λ f can told. one_left state same i
          (c.advance.ensures.left f (one_can state same i can) (one_told state same i told));
      keeps = e.keeps;
      paid = λ q paid. e.paid q (one_paid state same i q paid);
      made = one_moved state same i (at_true c.if-moved.true e.made);
      cause = record {
        later = one_faults state same i (λ n. n ≤ (state c.advance.new.disk).faults) e.cause.later;
        rose = tt;
        calm = one_faults state same i (λ n. (state c.advance.new.disk).faults ≡ n) e.cause.calm;
      };
    }

-- ---- a phase ended

pub onward-requires : goal.onward-requires
onward-requires g c =
    let ok = c.in-Ok.ensures in
    let i = one_same g.D.Disk.state c.if-moved.false ok.made ok.none c.phases.invariant.1 in
    let same = ok.none c.if-moved.false ∙ c.phases.invariant.0 in
    let goes = (one_can g.D.Disk.state same i c.requires.start.1).on.goes in
    let end = found_end (at_false _ _ c.if-moved.false ok.made) in
    (omega arith, (omega arith, (over_in c.advance.new.phase goes i.keeps, end)))

pub phases-preserved : goal.phases-preserved
phases-preserved g c =
    let ok = c.in-Ok.ensures in
    let i = one_same g.D.Disk.state c.if-moved.false ok.made ok.none c.phases.invariant.1 in
    let same = ok.none c.if-moved.false ∙ c.phases.invariant.0 in
    (same, one_hand g.D.Disk.state same i c.requires.start.1 c.in-Next.ensures)

pub phases-smaller : goal.phases-smaller
phases-smaller g c =
    one_falls (at_false _ _ c.if-moved.false c.in-Ok.ensures.made) c.in-Next.ensures

-- ---- the end

pub settle-requires : goal.settle-requires
settle-requires g c =
    let ok = c.in-Ok.ensures in
    let i = one_same g.D.Disk.state c.if-moved.false ok.made ok.none c.phases.invariant.1 in
    let same = ok.none c.if-moved.false ∙ c.phases.invariant.0 in (
      omega arith,
      (
        omega arith,
        (
          one_ready g.D.Disk.state same i c.requires.ready,
          (
            omega (arith, ap (λ (x : HandsValue). x.buffer) i.parts, c.requires.lent.buffer),
            (
              c.requires.lent.few,
              (
                (
                  c.requires.start.0,
                  one_settles g.D.Disk.state same i c.requires.start.1 c.in-End.ensures.course,
                ),
                c.in-End.ensures.settled,
              ),
            ),
          ),
        ),
      ),
    )

pub returns-in-Err-settle : goal.returns-in-Err-settle
returns-in-Err-settle g c =
    let state = g.D.Disk.state in
    let ok = c.in-Ok.ensures in
    let i = one_same state c.if-moved.false ok.made ok.none c.phases.invariant.1 in
    let same = ok.none c.if-moved.false ∙ c.phases.invariant.0 in
    let e = c.in-Err-settle.ensures in
    let s = c.settle.ensures in
    record {
      goes = λ f can. tt;
      left = λ f can told. one_left state same i (left_wider (omega (arith, s.later))
          (s.left f (one_settles state same i can c.in-End.ensures.course) (one_told state same i told)));
      keeps = tt;
      paid = λ q paid. tt;
      made = one_stopped state same i (record {
        spots = s.spots;
        later = s.later;
        one = s.one;
        row = s.moved;
        keeps = s.keeps;
        turns = omega (arith, s.calls.most);
      });
      cause = record {
        later = one_faults state same i (λ n. n ≤ (state c.settle.new.disk).faults) e.cause.later;
        rose = one_faults state same i (λ n. Rose n (state c.settle.new.disk).faults) e.cause.rose;
        calm = tt;
      };
    }

pub returns-in-Ok-settle : goal.returns-in-Ok-settle
returns-in-Ok-settle g c =
    let state = g.D.Disk.state in
    let ok = c.in-Ok.ensures in
    let i = one_same state c.if-moved.false ok.made ok.none c.phases.invariant.1 in
    let same = ok.none c.if-moved.false ∙ c.phases.invariant.0 in
    let e = c.in-Ok-settle.ensures in
    let s = c.settle.ensures in
    record {
      goes = λ f can. e.ends f (one_settles state same i can c.in-End.ensures.course);
      left = λ f can told. one_left state same i (left_wider (omega (arith, s.later))
          (s.left f (one_settles state same i can c.in-End.ensures.course) (one_told state same i told)));
      keeps = tt;
      paid = λ q paid. one_pays state same i c.requires.start.1 (used_in c.settle.new.hands.slots) e.pair q
          paid;
      made = one_ended state same i (record {
        pair = e.pair;
        spots = s.spots;
        row = s.moved;
        keeps = s.keeps;
        turns = e.calls.all;
      });
      cause = record {
        later = one_faults state same i (λ n. n ≤ (state c.settle.new.disk).faults) e.cause.later;
        rose = tt;
        calm = one_faults state same i (λ n. (state c.settle.new.disk).faults ≡ n) e.cause.calm;
      };
    }
