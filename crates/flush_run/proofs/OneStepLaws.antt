-- A step of a flush: the phases that have no move left hand over, and one move is made, or the flush ends.
use Rattle.std.specs.Prelude.{◌≡◌, ℕ, ◌+◌, ◌-◌, ◌*◌, ◌<◌, ◌≤◌, Bool, true, false, Option, Some, None, Ok, IsTrue, refl}
use Rattle.std.proofs.Common.{arith, sym, ◌∙◌, ap, subst}
use Rattle.disk_face.specs.States.{State}
use Rattle.slot_codec.specs.Choice as choice
use Rattle.slot_pair.specs.Saves.{next_in_use}
use Rattle.flush_plan.specs.Shelves.{PlanFrame}
use Rattle.flush_run.specs.Advances.{FindsEnd, HasAdvanced, HasEnded, HasStepped, HasStopped}
use Rattle.flush_run.specs.FlushFrames.{FlushFrame, LeavesOldOrNew}
use Rattle.flush_run.specs.HandsOn.{GoesNext}
use Rattle.flush_run.specs.Loops.{CanSave}
use Rattle.flush_run.specs.Parts.{HandsValue}
use Rattle.flush_run.specs.Phases.{AtEnd, CanAdvance, GoesOn, KeepsIn, PaidIn, course_in, items_in, moved_in, phase_in, rank_of}
use Rattle.flush_model.specs.Plans.{class_total}
use Rattle.flush_run.specs.Shelved.{items_now, phase_now}
use Rattle.flush_run.specs.Settling.{FlushEnds}
use Rattle.flush_run.specs.Steps.{GoesThen, HandsOver, HasMovedOne, InStep, KeepsThen, MakesThen, PaidThen, stepped_of}
use Rattle.flush_run.specs.Sums.{Mark, SumsSoFar}
use Rattle.flush_run.specs.declared.one_step.Stepped.{Stepped}
use Rattle.flush_run.specs.declared.one_step.Stepped.TheVariants as stepped
use Rattle.flush_run.specs.declared.phase.Phase.{Phase}
use Rattle.flush_run.specs.declared.phase.Phase.TheVariants as phases
use Rattle.flush_plan.specs.Lays.{End}
use Rattle.flush_run.proofs.BeginLaws.{goes_in}
use Rattle.flush_run.proofs.HandLaws.{hand_goes, hand_pays, paid_more}
use Rattle.flush_run.proofs.ShelvedLaws.{phase_same}
use Rattle.flush_run.proofs.SumLaws.{grows_on, steps_fall, steps_stay}

pub rank_few : {C : ℕ} (s : Phase C) → rank_of s ≤ 2
rank_few (phases.Lift v) = omega arith
rank_few (phases.Pack v) = omega arith
rank_few (phases.Lay v) = omega arith

-- ---- what a phase answered

pub at_false : {C : ℕ} {s0 s : Phase C} {x0 x : HandsValue} (first now : State) {moved : Bool} → moved ≡ false
    → HasStepped moved s0 s x0 x first now → FindsEnd s0 s x0 x
at_false {s0 = s0} {s} {x0} {x} first now is made =
    subst (λ b. HasStepped b s0 s x0 x first now) is made

module _ {C : ℕ} {s0 s : Phase C} {x0 x : HandsValue} {first now : State} where
  pub at_true : {moved : Bool} → moved ≡ true → HasStepped moved s0 s x0 x first now
      → HasAdvanced s0 s x0 x first now
  at_true is made = subst (λ b. HasStepped b s0 s x0 x first now) is made

pub found_end : {C : ℕ} {s0 s : Phase C} {x0 x : HandsValue} → FindsEnd s0 s x0 x
    → AtEnd s (phase_in s x.table)
found_end {s0 = s0} {s} {x0} {x} e =
    subst (λ y. AtEnd s (phase_in s y.table)) (sym e.parts)
    (subst (λ t. AtEnd t (phase_in t x0.table)) (sym e.phase) e.end)

pub one_begins : {C : ℕ} (s : Phase C) (x : HandsValue) (d : State) → KeepsIn s (items_in s x.table)
    → InStep x x s s d
one_begins s x d keeps = record {
  parts = refl;
  over = record { course = refl; onward = omega arith; grows = λ c. omega arith; falls = omega arith };
  keeps = keeps;
  paid = λ q paid. paid;
  goes = λ f can. can;
}

-- a phase that hands over comes once
pub one_falls : {C : ℕ} {s0 s s2 : Phase C} {x0 x : HandsValue} → FindsEnd s0 s x0 x
    → GoesNext s s2 x.table → 3 - rank_of s2 < 3 - rank_of s0
one_falls {s0 = s0} {s} {s2} e h =
    omega (arith, ap (λ t. rank_of t) e.phase, h.next, rank_few s2)

-- where a phase made no move, nothing changed
pub one_same : {C : ℕ} {X : Type 0} (state : X → State) {d d2 : X} {x0 x x2 : HandsValue}
    {s0 s s2 : Phase C} {moved : Bool} → moved ≡ false
    → HasStepped moved s s2 x x2 (state d) (state d2) → (moved ≡ false → d2 ≡ d)
    → InStep x0 x s0 s (state d) → InStep x0 x2 s0 s2 (state d2)
one_same state {d} {d2} {x0} {x} {x2} {s0} {s} {s2} is made none i =
    let e = at_false (state d) (state d2) is made in
    subst (λ y. InStep x0 x2 s0 s2 (state y)) (sym (none is))
    (subst (λ y. InStep x0 y s0 s2 (state d)) (sym e.parts)
    (subst (λ t. InStep x0 x s0 t (state d)) (sym e.phase) i))

module _ {C : ℕ} {X : Type 0} (state : X → State) {d0 d : X} (same : d ≡ d0) {x0 x : HandsValue}
    {s0 s : Phase C} (i : InStep x0 x s0 s (state d))
  where
    -- what the step began with, now
    pub one_can : {f : FlushFrame} → CanAdvance f s0 x0 (state d0) → CanAdvance f s x (state d)
    one_can {f} can = i.goes f (subst (λ y. CanAdvance f s0 y (state d)) (sym i.parts)
        (subst (λ y. CanAdvance f s0 x0 (state y)) (sym same) can))

    pub one_paid : (q : ℕ) → PaidIn q s0 x0 → PaidIn q s x
    one_paid q paid = i.paid q (subst (λ y. PaidIn q s0 y) (sym i.parts) paid)

    pub one_ready : IsTrue (state d0).is_ready → IsTrue (state d).is_ready
    one_ready ready = subst (λ y. IsTrue (state y).is_ready) (sym same) ready

    pub one_told : IsTrue (state d0).tells → IsTrue (state d).tells
    one_told told = subst (λ y. IsTrue (state y).tells) (sym same) told

    pub one_left : {f : FlushFrame} {n : ℕ} {b : State} → LeavesOldOrNew f n (state d) b
        → LeavesOldOrNew f n (state d0) b
    one_left {f} {n} {b} left = subst (λ y. LeavesOldOrNew f n (state y) b) same left

    pub one_faults : (P : ℕ → Type 0) → P (state d).faults → P (state d0).faults
    one_faults P p = subst (λ y. P (state y).faults) same p

    -- the next phase
    pub one_hand : {f : FlushFrame} {s2 : Phase C} → CanAdvance f s0 x0 (state d0) → GoesNext s s2 x.table
        → InStep x0 x s0 s2 (state d)
    one_hand {f} {s2} start h = record {
      parts = i.parts;
      over = record {
        course = h.course ∙ i.over.course;
        onward = omega (arith, i.over.onward, h.next);
        grows = λ c. omega (
          arith,
          i.over.grows c,
          grows_on s s2 (phase_in s x.table) h.next c,
          ap (λ (v : PlanFrame). moved_in s2 (phase_now v x.table) c) h.course,
        );
        falls = omega (arith, i.over.falls, steps_stay s s2 x.table h.course h.next);
      };
      keeps = h.keeps;
      paid = λ q p. hand_pays s s2 (one_can start).on i.keeps h q (i.paid q p);
      goes = λ f2 can. record { on = hand_goes s s2 (i.goes f2 can).on h; saves = (i.goes f2 can).saves };
    }

    -- what was laid may be settled
    pub one_settles : {f : FlushFrame} {c : PlanFrame} → CanAdvance f s0 x0 (state d0) → c ≡ course_in s
        → CanSave C f x.caps x.grid x (phase_now c x.table) (state d)
    one_settles {f} {c} start course =
        let can = one_can start in
        record {
          goes = goes_in can.on.goes refl refl
              (phase_same (course_in s) c x.table x.table course refl refl);
          saves = can.saves;
        }

    pub one_moved : {x2 : HandsValue} {s2 : Phase C} {b : State} → HasAdvanced s s2 x x2 (state d) b
        → HasMovedOne s0 s2 x0 x2 (state d0) b
    one_moved {x2} {s2} {b} a = subst (λ y. HasMovedOne s0 s2 x0 x2 (state y) b) same
        (subst (λ y. HasMovedOne s0 s2 y x2 (state d) b) i.parts
        (record {
          from = s;
          over = i.over;
          move = a;
          fewer = omega (arith, steps_fall a i.keeps, i.over.falls);
        }))

    -- what was laid is settled, or the disk failed meanwhile
    pub one_ended : {x2 : HandsValue} {b : State} → HasEnded x x2 (state d) b → HasEnded x0 x2 (state d0) b
    one_ended {x2} {b} e = subst (λ y. HasEnded x0 x2 (state y) b) same
        (subst (λ y. HasEnded y x2 (state d) b) i.parts e)

    pub one_stopped : {x2 : HandsValue} {b : State} → HasStopped x x2 (state d) b
        → HasStopped x0 x2 (state d0) b
    one_stopped {x2} {b} e = subst (λ y. HasStopped x0 x2 (state y) b) same
        (subst (λ y. HasStopped y x2 (state d) b) i.parts e)

    -- at the end there are at most twice k saves
    pub one_pays : {f : FlushFrame} → CanAdvance f s0 x0 (state d0) → (u : choice.InUse)
        → u ≡ next_in_use x.in_use → (q : ℕ) → PaidIn q s0 x0 → u.sequence ≤ q + 2 * u.block.k
    one_pays start u pair q paid = omega (
      arith,
      ap (λ (v : choice.InUse). v.sequence) pair,
      ap (λ (v : choice.InUse). v.block.k) pair,
      paid_more s x (one_can start).on q (one_paid q paid),
    )

-- what was summed up stays so where a phase handed over
pub sums_over : {C : ℕ} {s0 s : Phase C} {x : HandsValue} {d : State} {m : Mark} → HandsOver s0 s x.table
    → SumsSoFar m s0 x d → SumsSoFar m s x d
sums_over {s = s} {x = x} over so = record {
  totals = λ c. ap (λ (v : PlanFrame). class_total (items_now v x.table) c) over.course ∙ so.totals c;
  sizes = so.sizes;
  later = so.later;
  lower = λ c low. so.lower c (omega (arith, low, ap (λ (v : PlanFrame). v.numbers.boundary) over.course));
  rises = λ c. omega (arith, so.rises c, over.grows c);
  calls = so.calls;
}

-- ---- what a step answered

-- What is known where it moved an object, and where it settled what stands.
pub record StepMoved {C : ℕ} (v v2 : Phase C) (x1 x2 : HandsValue) (a d : State) : Type 0 where
  pub made : HasMovedOne v v2 x1 x2 a d
  pub on : (f : FlushFrame) → CanAdvance f v x1 a → GoesOn f v2 x2 d
  pub keeps : KeepsIn v2 (items_in v2 x2.table)
  pub paid : (q : ℕ) → PaidIn q v x1 → PaidIn q v2 x2

pub record StepSettled {C : ℕ} (v : Phase C) (x1 x2 : HandsValue) (a d : State) : Type 0 where
  pub ended : HasEnded x1 x2 a d
  pub ends : (f : FlushFrame) → CanAdvance f v x1 a → FlushEnds C f x2 d

module _ {C : ℕ} (E : Type 0) (v : Phase C) (x1 x2 : HandsValue) (a d : State) (r : Stepped C) where
  pub step_moved : (v2 : Phase C) → r ≡ stepped.Moved v2 → MakesThen {E = E} v (Ok r) x1 x2 a d
      → ((f : FlushFrame) → CanAdvance f v x1 a → GoesThen {E = E} f (Ok r) x2 d)
      → KeepsThen {E = E} (Ok r) x2 → ((q : ℕ) → PaidIn q v x1 → PaidThen {E = E} q (Ok r) x2)
      → StepMoved v v2 x1 x2 a d
  step_moved v2 is made goes keeps paid = record {
    made = subst (λ q. MakesThen {E = E} v (Ok q) x1 x2 a d) is made;
    on = λ f can. subst (λ q. GoesThen {E = E} f (Ok q) x2 d) is (goes f can);
    keeps = subst (λ q. KeepsThen {E = E} (Ok q) x2) is keeps;
    paid = λ n p. subst (λ q. PaidThen {E = E} n (Ok q) x2) is (paid n p);
  }

  pub step_settled : (e : End) → r ≡ stepped.Settled e → MakesThen {E = E} v (Ok r) x1 x2 a d
      → ((f : FlushFrame) → CanAdvance f v x1 a → GoesThen {E = E} f (Ok r) x2 d)
      → StepSettled v x1 x2 a d
  step_settled e is made goes = record {
    ended = subst (λ q. MakesThen {E = E} v (Ok q) x1 x2 a d) is made;
    ends = λ f can. subst (λ q. GoesThen {E = E} f (Ok q) x2 d) is (goes f can);
  }

-- of a step in place
module _ {C : ℕ} (E : Type 0) (v v2 : Phase C) (x1 x2 : HandsValue) (a d : State) (r : Option End) where
  pub went_on : r ≡ None → MakesThen {E = E} v (stepped_of v2 (Ok r)) x1 x2 a d
      → ((f : FlushFrame) → CanAdvance f v x1 a → GoesThen {E = E} f (stepped_of v2 (Ok r)) x2 d)
      → KeepsThen {E = E} (stepped_of v2 (Ok r)) x2
      → ((q : ℕ) → PaidIn q v x1 → PaidThen {E = E} q (stepped_of v2 (Ok r)) x2)
      → StepMoved v v2 x1 x2 a d
  went_on is made goes keeps paid = record {
    made = subst (λ q. MakesThen {E = E} v (stepped_of v2 (Ok q)) x1 x2 a d) is made;
    on = λ f can. subst (λ q. GoesThen {E = E} f (stepped_of v2 (Ok q)) x2 d) is (goes f can);
    keeps = subst (λ q. KeepsThen {E = E} (stepped_of v2 (Ok q)) x2) is keeps;
    paid = λ n p. subst (λ q. PaidThen {E = E} n (stepped_of v2 (Ok q)) x2) is (paid n p);
  }

  pub came_to_end : (e : End) → r ≡ Some e → MakesThen {E = E} v (stepped_of v2 (Ok r)) x1 x2 a d
      → ((f : FlushFrame) → CanAdvance f v x1 a → GoesThen {E = E} f (stepped_of v2 (Ok r)) x2 d)
      → StepSettled v x1 x2 a d
  came_to_end e is made goes = record {
    ended = subst (λ q. MakesThen {E = E} v (stepped_of v2 (Ok q)) x1 x2 a d) is made;
    ends = λ f can. subst (λ q. GoesThen {E = E} f (stepped_of v2 (Ok q)) x2 d) is (goes f can);
  }

pub paid_at_end : {C : ℕ} (E : Type 0) (v : Phase C) (x : HandsValue) (r : Option End) (e : End) → r ≡ Some e
    → (q : ℕ) → PaidThen {E = E} q (stepped_of v (Ok r)) x → x.in_use.sequence ≤ q + 2 * x.in_use.block.k
paid_at_end E v x r e is n p = subst (λ r2. PaidThen {E = E} n (stepped_of v (Ok r2)) x) is p
