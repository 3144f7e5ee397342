use Rattle.std.proofs.Common.{◌∙◌, arith, subst}
use Rattle.disk_face.specs.Counts.{Rose}
use Rattle.flush_run.proofs.AdvanceLaws.{over_in}
use Rattle.flush_run.proofs.LeftLaws.{left_then, left_wider, still_told}
use Rattle.flush_run.proofs.OneStepLaws.{at_false, at_true, found_end}
use Rattle.flush_run.proofs.RunLaws.{hand_falls, move_falls, one_of, paid_end, run_begins, run_done, run_ends, run_hand, run_moved, run_next, run_same, run_settles, run_stops, saves_end}
use Rattle.flush_run.proofs.whole.go_on.Goals as goal

pub steps-init : goal.steps-init
steps-init g c = run_begins {C = g.row.C} _ _ _ c.requires.ready c.requires.keeps

pub advance-requires : goal.advance-requires
advance-requires g c =
    let i = c.steps.invariant in
    let can = (i.all c.requires.start.0 c.requires.start.1).can in (
      omega arith,
      (
        omega arith,
        (
          i.keeps.disk.stays.ready,
          (
            omega (arith, i.keeps.buffer, c.requires.lent.buffer),
            (c.requires.lent.few, ((c.requires.start.0, one_of can), i.keeps_in)),
          ),
        ),
      ),
    )

-- ---- a call of the move failed

pub returns-in-Err : goal.returns-in-Err
returns-in-Err g c =
    let i = c.steps.invariant in
    let e = c.in-Err.ensures in
    record {
      ends = λ f can. tt;
      left = λ f can told.
          let s = i.all f can in
          left_then (omega (arith, e.stopped.later)) (s.left told) (c.advance.ensures.left f (one_of s.can)
          (still_told i.keeps told));
      few = saves_end i _ e.stopped.one;
      paid = λ q paid. paid_end i c.requires.start.1 _ e.stopped.one q paid;
      done = tt;
      made = run_stops i e.stopped;
      cause = record {
        later = omega (arith, e.cause.later, i.calm);
        rose = subst (λ n. Rose n (g.D.Disk.state c.advance.new.disk).faults) i.calm e.cause.rose;
        calm = tt;
      };
    }

-- ---- it was made

pub steps-preserved-then-moved : goal.steps-preserved-then-moved
steps-preserved-then-moved g c =
    let ok = c.in-Ok.ensures in
    run_next c.steps.invariant
    (run_moved g.D.Disk.state c.steps.invariant (at_true c.if-moved.true ok.made) ok.keeps ok.paid ok.goes)
    c.advance.ensures.left

pub steps-smaller-then-moved : goal.steps-smaller-then-moved
steps-smaller-then-moved g c =
    move_falls (at_true c.if-moved.true c.in-Ok.ensures.made) c.steps.invariant.keeps_in

-- ---- a phase ended

pub onward-requires : goal.onward-requires
onward-requires g c =
    let ok = c.in-Ok.ensures in
    let i = run_same g.D.Disk.state c.if-moved.false ok.made ok.none c.steps.invariant in
    let goes = (i.all c.requires.start.0 c.requires.start.1).can.on.goes in
    let end = found_end (at_false _ _ c.if-moved.false ok.made) in
    (omega arith, (omega arith, (over_in c.advance.new.phase goes i.keeps_in, end)))

pub steps-preserved : goal.steps-preserved
steps-preserved g c =
    let ok = c.in-Ok.ensures in
    run_hand g.D.Disk.state (run_same g.D.Disk.state c.if-moved.false ok.made ok.none c.steps.invariant)
    c.requires.start.1 c.in-Next.ensures

pub steps-smaller : goal.steps-smaller
steps-smaller g c =
    hand_falls (at_false _ _ c.if-moved.false c.in-Ok.ensures.made) c.in-Next.ensures

-- ---- the end

pub settle-requires : goal.settle-requires
settle-requires g c =
    let ok = c.in-Ok.ensures in
    let i = run_same g.D.Disk.state c.if-moved.false ok.made ok.none c.steps.invariant in (
      omega arith,
      (
        omega arith,
        (
          i.keeps.disk.stays.ready,
          (
            omega (arith, i.keeps.buffer, c.requires.lent.buffer),
            (
              c.requires.lent.few,
              (
                (c.requires.start.0, run_settles g.D.Disk.state i c.requires.start.1 c.in-End.ensures.course),
                c.in-End.ensures.settled,
              ),
            ),
          ),
        ),
      ),
    )

pub returns-in-Err-settle : goal.returns-in-Err-settle
returns-in-Err-settle g c =
    let ok = c.in-Ok.ensures in
    let i = run_same g.D.Disk.state c.if-moved.false ok.made ok.none c.steps.invariant in
    let e = c.in-Err-settle.ensures in
    let s = c.settle.ensures in
    record {
      ends = λ f can. tt;
      left = λ f can told.
          left_then (omega (arith, s.later)) ((i.all f can).left told)
          (left_wider (omega (arith, s.later))
          (s.left f (run_settles g.D.Disk.state i can c.in-End.ensures.course) (still_told i.keeps told)));
      few = saves_end i _ s.one;
      paid = λ q paid. paid_end i c.requires.start.1 _ s.one q paid;
      done = tt;
      made = run_stops i (record {
        spots = s.spots;
        later = s.later;
        one = s.one;
        row = s.moved;
        keeps = s.keeps;
        turns = omega (arith, s.calls.most);
      });
      cause = record {
        later = omega (arith, e.cause.later, i.calm);
        rose = subst (λ n. Rose n (g.D.Disk.state c.settle.new.disk).faults) i.calm e.cause.rose;
        calm = tt;
      };
    }

pub returns-in-Ok-settle : goal.returns-in-Ok-settle
returns-in-Ok-settle g c =
    let ok = c.in-Ok.ensures in
    let i = run_same g.D.Disk.state c.if-moved.false ok.made ok.none c.steps.invariant in
    let e = c.in-Ok-settle.ensures in
    let s = c.settle.ensures in
    record {
      ends = λ f can. e.ends f (run_settles g.D.Disk.state i can c.in-End.ensures.course);
      left = λ f can told.
          left_then (omega (arith, s.later)) ((i.all f can).left told)
          (left_wider (omega (arith, s.later))
          (s.left f (run_settles g.D.Disk.state i can c.in-End.ensures.course) (still_told i.keeps told)));
      few = saves_end i _ s.one;
      paid = λ q paid. paid_end i c.requires.start.1 _ s.one q paid;
      done = run_done i (record {
        pair = e.pair;
        spots = s.spots;
        row = s.moved;
        keeps = s.keeps;
        turns = e.calls.all;
      });
      made = run_ends i (record {
        pair = e.pair;
        spots = s.spots;
        row = s.moved;
        keeps = s.keeps;
        turns = e.calls.all;
      });
      cause = record {
        later = omega (arith, e.cause.later, i.calm);
        rose = tt;
        calm = e.cause.calm ∙ i.calm;
      };
    }
