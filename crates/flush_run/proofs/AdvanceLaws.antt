-- One step of a flush: what it may count on, and what it makes.
use Rattle.std.specs.Prelude.{◌≡◌, ℕ, ◌+◌, ◌*◌, ◌<◌, Bool, true, false, if◌then◌else◌, length, Option, IsFalse, OnErr, Result, Ok, Err, refl}
use Rattle.std.proofs.Common.{arith, sym, ◌∙◌, ap, subst}
use Rattle.std.specs.FinMap as fin
use Rattle.disk_face.specs.States.{State}
use Rattle.segment_layout.specs.Shapes.{end_of}
use Rattle.slot_codec.specs.Choice as choice
use Rattle.slot_pair.specs.Saves.{next_in_use}
use Rattle.extent_table.specs.Extents.{Extents, Spots}
use Rattle.flush_model.specs.declared.item.Move.{Move}
use Rattle.flush_model.specs.declared.item.Numbers.{Numbers}
use Rattle.flush_model.specs.Phases.{PlanState, moved_by}
use Rattle.flush_model.specs.Plans.{IsSafe, relocated}
use Rattle.flush_model.specs.Steps.{IsMover}
use Rattle.flush_plan.specs.Shelves.{PlanFrame}
use Rattle.flush_run.specs.Advances.{HasAdvanced, HasStopped, MovesObject}
use Rattle.flush_run.specs.FlushFrames.{FlushFrame}
use Rattle.flush_run.specs.Hands.{AllEndBy}
use Rattle.flush_run.specs.Loops.{BetweenMoves, LaysPaid, PacksPaid}
use Rattle.flush_run.specs.MadeMoves.{CanMakeMove, HasMadeMove, HasNotMoved, MayTake}
use Rattle.flush_run.specs.Moves.{FreesTarget, moved_spot}
use Rattle.flush_run.specs.Parts.{HandsValue, size_in}
use Rattle.flush_run.specs.Shelved.{shelf_of}
use Rattle.flush_run.specs.Phases.{CanAdvance, GoesOn, IsOver, KeepsIn, LowIn, PaidIn, StepIn, course_in, items_in, phase_in, rank_of, saving_in}
use Rattle.flush_run.specs.declared.phase.Phase.{Phase}
use Rattle.flush_run.specs.declared.phase.Phase.TheVariants as phases
use Rattle.flush_run.proofs.BeginLaws.{goes_in}
use Rattle.flush_run.proofs.GoesLaws.{can_step}
use Rattle.flush_run.proofs.MadeLaws.{settling_of}
use Rattle.flush_run.proofs.MakeMoveLaws.{frees_keys, frees_now, kept_moved}
use Rattle.flush_run.proofs.OverLaws.{lays_over, lifts_over, packs_over}
use Rattle.flush_run.proofs.PaidLaws.{lay_paid, pack_paid}
use Rattle.flush_run.proofs.ShelvedLaws.{phase_moved, phase_same}
use Rattle.flush_run.proofs.SizeLaws.{sizes_moved}

-- ---- what a step may count on

-- the phase goes on over the table
pub over_in : {C : ℕ} (s : Phase C) {f : FlushFrame} {x : HandsValue} {d : State}
    → BetweenMoves C f x.caps x.grid x (phase_in s x.table) d → KeepsIn s (items_in s x.table)
    → IsOver s (items_in s x.table) (shelf_of x.table)
over_in (phases.Lift v) g keeps = lifts_over g keeps
over_in (phases.Pack v) g keeps = packs_over g keeps
over_in (phases.Lay v) g keeps = lays_over g keeps

pub item_of : {C : ℕ} (s : Phase C) {p : PlanState} {mv : Move} → StepIn s p mv → IsMover p mv
item_of (phases.Lift v) step = step.item
item_of (phases.Pack v) step = step.item
item_of (phases.Lay v) step = step.item

safe_of : {C : ℕ} (s : Phase C) (p : PlanState) {mv : Move} → StepIn s p mv → IsSafe p.numbers p.items mv
safe_of (phases.Lift v) p step = step.safe
safe_of (phases.Pack v) p step = step.safe
safe_of (phases.Lay v) p step = step.safe

-- what it asks of its target: in Lift nothing held lies there, and else what stands now can be saved
takes_of : {C : ℕ} (s0 s : Phase C) (x : HandsValue) (mv : Move) → course_in s ≡ course_in s0
    → rank_of s ≡ rank_of s0 → LowIn s0 x.table → StepIn s0 (phase_in s0 x.table) mv
    → MayTake (saving_in s) x (phase_in s0 x.table) mv
takes_of (phases.Lift v) (phases.Lift w) x mv course same low step = λ name q is. omega (
  arith,
  low name q is,
  step.past,
)
takes_of (phases.Pack v) (phases.Pack w) x mv course same low step =
    (ap (λ (c : PlanFrame). c.numbers) course, step.before.resumes)
takes_of (phases.Lay v) (phases.Lay w) x mv course same low step =
    (ap (λ (c : PlanFrame). c.numbers) course, step.before.packing.resumes)
takes_of (phases.Lift v) (phases.Pack w) x mv course same low step = absurd (omega (arith, same))
takes_of (phases.Lift v) (phases.Lay w) x mv course same low step = absurd (omega (arith, same))
takes_of (phases.Pack v) (phases.Lift w) x mv course same low step = absurd (omega (arith, same))
takes_of (phases.Pack v) (phases.Lay w) x mv course same low step = absurd (omega (arith, same))
takes_of (phases.Lay v) (phases.Lift w) x mv course same low step = absurd (omega (arith, same))
takes_of (phases.Lay v) (phases.Pack w) x mv course same low step = absurd (omega (arith, same))

pub can_make : {C : ℕ} (s0 s : Phase C) {f : FlushFrame} {x : HandsValue} {d : State} {mv : Move}
    {saving : Option Numbers} → saving ≡ saving_in s → CanAdvance f s0 x d → course_in s ≡ course_in s0
    → rank_of s ≡ rank_of s0 → StepIn s0 (phase_in s0 x.table) mv
    → CanMakeMove C f x (phase_in s0 x.table) saving mv d
can_make {C} s0 s {f} {x} {d} {mv} saving can course same step =
    subst (λ o. CanMakeMove C f x (phase_in s0 x.table) o mv d) (sym saving) (record {
      ready = record { goes = can.on.goes; saves = can.saves };
      item = item_of s0 step;
      safe = safe_of s0 (phase_in s0 x.table) step;
      takes = takes_of s0 s x mv course same can.on.low step;
    })

pub made_in : {C : ℕ} (s : Phase C) {saving : Option Numbers} {mv : Move} {first now : State}
    {x0 x : HandsValue} → saving ≡ saving_in s → HasMadeMove mv saving first now x0 x
    → HasMadeMove mv (saving_in s) first now x0 x
made_in s {mv = mv} {first} {now} {x0} {x} saving made =
    subst (λ o. HasMadeMove mv o first now x0 x) saving made

-- where a call failed
pub move_stops : {C : ℕ} (s0 : Phase C) {f : FlushFrame} {mv : Move} {first now : State} {x0 x : HandsValue}
    → CanAdvance f s0 x0 first → StepIn s0 (phase_in s0 x0.table) mv → HasNotMoved mv first now x0 x
    → HasStopped x0 x first now
move_stops s0 {x0 = x0} can step h =
    let small = (can_step can.on.goes (item_of s0 step) (safe_of s0 (phase_in s0 x0.table) step)).few in
    record {
      spots = h.spots;
      later = h.later;
      one = h.one;
      row = h.row;
      keeps = settling_of h.keeps;
      turns = omega (arith, h.turns, small);
    }

-- what holds where it failed
pub on_err : {T E A : Type 0} (r : Result T E) → A → OnErr r A
on_err (Ok x) a = tt
on_err (Err e) a = a

-- ---- what it makes

module _ {C : ℕ} (s0 s : Phase C) {mv : Move} {first now : State} {x0 x : HandsValue}
    (h : HasMadeMove mv (saving_in s) first now x0 x) (course : course_in s ≡ course_in s0)
    (same : rank_of s ≡ rank_of s0)
  where
    same_now : h.mid.table.now ≡ x0.table.now
    same_now = frees_now h.target x0.in_use h.mid.in_use x0.table h.mid.table x0.spans h.mid.spans h.saved
        h.frees

    same_keys : h.mid.table.keys ≡ x0.table.keys
    same_keys = frees_keys h.target x0.in_use h.mid.in_use x0.table h.mid.table x0.spans h.mid.spans h.saved
        h.frees

    kept_mid : x.table.kept ≡ h.mid.table.kept
    kept_mid = kept_moved h.can.mover h.moved

    -- the phase over the table
    pub step_after : phase_in s x.table ≡ moved_by mv (phase_in s0 x0.table)
    step_after = phase_moved (course_in s0) (course_in s) course h.can h.moved
        ∙ ap (moved_by mv) (phase_same (course_in s0) (course_in s0) x0.table h.mid.table refl same_now
        same_keys)

    pair_after : x.in_use ≡ (if h.saved then next_in_use x0.in_use else x0.in_use)
    pair_after = h.slots ∙ by h.saved h.frees
      where
        by : (saved : Bool)
            → FreesTarget saved h.target x0.in_use h.mid.in_use x0.table h.mid.table x0.spans h.mid.spans
            → h.mid.in_use ≡ (if saved then next_in_use x0.in_use else x0.in_use)
        by true a = a.pair
        by false a = a.pair

    -- after a save, what stood is the checkpoint
    kept_after : x.table.kept ≡ (if h.saved then x0.table.now else x0.table.kept)
    kept_after = kept_mid ∙ by h.saved h.frees
      where
        by : (saved : Bool)
            → FreesTarget saved h.target x0.in_use h.mid.in_use x0.table h.mid.table x0.spans h.mid.spans
            → h.mid.table.kept ≡ (if saved then x0.table.now else x0.table.kept)
        by true a = ap (λ (e : Extents). e.kept) a.table
        by false a = ap (λ (e : Extents). e.kept) a.table

    object_after : MovesObject mv x0.table.now x.table.now
    object_after =
        let m = h.can.mover in
        record {
          name = m.name;
          spot = m.spot;
          there = ap (λ (q : Spots). fin.get q m.name) (sym same_now) ∙ m.mover.is;
          size = m.mover.size;
          now = ap (λ (e : Extents). e.now) (h.moved.now m.name m.spot m.mover)
              ∙ ap (λ (q : Spots). fin.insert q m.name (moved_spot m.spot mv.to)) same_now;
        }

    pub step_advances : StepIn s0 (phase_in s0 x0.table) mv → length x0.moved ≡ 32
        → HasAdvanced s0 s x0 x first now
    step_advances step full = record {
      course = course;
      same = same;
      mv = mv;
      step = step;
      after = step_after;
      saved = h.saved;
      pair = pair_after;
      full = full;
      row = h.row;
      object = object_after;
      kept = kept_after;
      sizes = λ name. sizes_moved h.can.mover h.moved name ∙ ap (λ (q : Spots). size_in q name) same_now;
      keeps = h.keeps;
      turns = h.turns;
      calm = h.calm;
    }

    -- the phase keeps what it has to keep
    pub step_keeps : KeepsIn s (relocated mv.key mv.to (items_in s0 x0.table))
        → KeepsIn s (items_in s x.table)
    step_keeps keeps = subst (KeepsIn s) (sym (ap (λ (p : PlanState). p.items) step_after)) keeps

    -- where nothing was saved
    unsaved : IsFalse h.saved → (h.mid.in_use ≡ x0.in_use) × (h.mid.table.kept ≡ x0.table.kept)
    unsaved = by h.saved h.frees
      where
        by : (saved : Bool)
            → FreesTarget saved h.target x0.in_use h.mid.in_use x0.table h.mid.table x0.spans h.mid.spans
            → IsFalse saved → (h.mid.in_use ≡ x0.in_use) × (h.mid.table.kept ≡ x0.table.kept)
        by true a none = absurd (let bad : true ≡ false = none in cc)
        by false a none = (a.pair, ap (λ (e : Extents). e.kept) a.table)

pub step_low : {C : ℕ} (s0 s : Phase C) {mv : Move} {first now : State} {x0 x : HandsValue}
    → HasMadeMove mv (saving_in s) first now x0 x → course_in s ≡ course_in s0 → rank_of s ≡ rank_of s0
    → LowIn s0 x0.table → LowIn s x.table
step_low {C} (phases.Lift v) (phases.Lift w) {x0 = x0} {x} h course same low =
    let s0 : Phase C = phases.Lift v in
    let s : Phase C = phases.Lift w in
    let kept : x.table.kept ≡ x0.table.kept = kept_mid s0 s h course same
    ∙ (unsaved s0 s h course same (h.unsaved refl)).1 in
    subst (λ (c : PlanFrame). AllEndBy x.table.kept (end_of c.k c.caps)) (sym course)
    (subst (λ (k : Spots). AllEndBy k (end_of v.course.k v.course.caps)) (sym kept) low)
step_low s0 (phases.Pack w) h course same low = tt
step_low s0 (phases.Lay w) h course same low = tt
step_low (phases.Pack v) (phases.Lift w) h course same low = absurd (omega (arith, same))
step_low (phases.Lay v) (phases.Lift w) h course same low = absurd (omega (arith, same))

-- the flush goes on
pub step_goes : {C : ℕ} (s0 s : Phase C) {f : FlushFrame} {mv : Move} {first now : State} {x0 x : HandsValue}
    → HasMadeMove mv (saving_in s) first now x0 x → course_in s ≡ course_in s0 → rank_of s ≡ rank_of s0
    → GoesOn f s0 x0 first
    → BetweenMoves C f x.caps x.grid x (moved_by mv (phase_in s0 x0.table)) now → GoesOn f s x now
step_goes s0 s h course same on goes = record {
  goes = goes_in goes refl refl (step_after s0 s h course same);
  low = step_low s0 s h course same on.low;
}

-- its saves stay paid
pub step_pays : {C : ℕ} (s0 s : Phase C) {f : FlushFrame} {mv : Move} {first now : State} {x0 x : HandsValue}
    → HasMadeMove mv (saving_in s) first now x0 x → course_in s ≡ course_in s0 → rank_of s ≡ rank_of s0
    → GoesOn f s0 x0 first → StepIn s0 (phase_in s0 x0.table) mv → (q : ℕ) → PaidIn q s0 x0 → PaidIn q s x
step_pays {C} (phases.Lift v) (phases.Lift w) h course same on step q paid =
    let s0 : Phase C = phases.Lift v in
    let s : Phase C = phases.Lift w in
    ap (λ (u : choice.InUse). u.sequence)
    (h.slots ∙ (unsaved s0 s h course same (h.unsaved refl)).0) ∙ paid
step_pays {C} (phases.Pack v) (phases.Pack w) {x = x} h course same on step q paid =
    let s0 : Phase C = phases.Pack v in
    let s : Phase C = phases.Pack w in
    record {
      pay = paid.pay;
      total = paid.total;
      paid = subst (λ r. PacksPaid paid.pay paid.total q x r) (sym (step_after s0 s h course same))
          (pack_paid on.goes h.mid h.target h.place h.size step paid.paid h.saved h.frees x h.slots
          (kept_mid s0 s h course same));
      enough = subst (λ (c : PlanFrame). paid.total < c.k * paid.pay) (sym course) paid.enough;
    }
step_pays {C} (phases.Lay v) (phases.Lay w) {x = x} h course same on step q paid =
    let s0 : Phase C = phases.Lay v in
    let s : Phase C = phases.Lay w in
    record {
      pay = paid.pay;
      total = paid.total;
      mid = paid.mid;
      packed = subst (λ (c : PlanFrame). paid.mid < q + c.k) (sym course) paid.packed;
      paid = subst (λ r. LaysPaid paid.pay paid.total paid.mid x r) (sym (step_after s0 s h course same))
          (lay_paid on.goes h.mid h.target h.place h.size step paid.paid h.saved h.frees x h.slots
          (kept_mid s0 s h course same));
      enough = subst (λ (c : PlanFrame). paid.total < c.k * paid.pay) (sym course) paid.enough;
    }
step_pays (phases.Lift v) (phases.Pack w) h course same on step q paid = absurd (omega (arith, same))
step_pays (phases.Lift v) (phases.Lay w) h course same on step q paid = absurd (omega (arith, same))
step_pays (phases.Pack v) (phases.Lift w) h course same on step q paid = absurd (omega (arith, same))
step_pays (phases.Pack v) (phases.Lay w) h course same on step q paid = absurd (omega (arith, same))
step_pays (phases.Lay v) (phases.Lift w) h course same on step q paid = absurd (omega (arith, same))
step_pays (phases.Lay v) (phases.Pack w) h course same on step q paid = absurd (omega (arith, same))
