-- The three phases of a flush as one value.
use Rattle.std.specs.Prelude.{◌≡◌, ℕ, ◌+◌, ◌*◌, ◌<◌, List, filter, length, Option, Some, None}
use Rattle.disk_face.specs.States.{State}
use Rattle.segment_layout.specs.Shapes.{end_of}
use Rattle.flush_model.specs.declared.item.Item.{Item}
use Rattle.flush_model.specs.declared.item.Move.{Move}
use Rattle.flush_model.specs.declared.item.Numbers.{Numbers}
use Rattle.flush_model.specs.Plans.{class_total, is_below_wall}
use Rattle.flush_model.specs.Phases.{IsLaidWhole, IsLifted, IsPackedWhole, PlanState, laid_in, lifted_in, packed_in, to_lay, to_pack}
use Rattle.flush_model.specs.Steps.{IsLayStep, IsLiftStep, IsPackStep}
use Rattle.extent_table.specs.Extents.{Extents}
use Rattle.flush_plan.specs.Lays.{KeepsLaying, Lays}
use Rattle.flush_plan.specs.Lifts.{KeepsLifting, Lifts}
use Rattle.flush_plan.specs.Packs.{KeepsPacking, Packs}
use Rattle.flush_plan.specs.Shelves.{PlanFrame}
use Rattle.flush_run.specs.FlushFrames.{FlushFrame}
use Rattle.flush_run.specs.Hands.{AllEndBy}
use Rattle.flush_run.specs.Loops.{BetweenMoves, LaysPaid, LeavesSaves, PacksPaid}
use Rattle.flush_run.specs.Parts.{HandsValue}
use Rattle.flush_run.specs.Shelved.{items_now, phase_now}
use Rattle.flush_run.specs.declared.phase.Phase.{Phase}
use Rattle.flush_run.specs.declared.phase.Phase.TheVariants as phases

abbrev pub course_in : {C : ℕ} → Phase C → PlanFrame
course_in (phases.Lift v) = v.course
course_in (phases.Pack v) = v.course
course_in (phases.Lay v) = v.course

-- the items over a table, and the phase
abbrev pub items_in : {C : ℕ} → Phase C → Extents → List Item
items_in s e = items_now (course_in s) e

abbrev pub phase_in : {C : ℕ} → Phase C → Extents → PlanState
phase_in s e = phase_now (course_in s) e

-- what the phase keeps of its items
abbrev pub KeepsIn : {C : ℕ} → Phase C → List Item → Type 0
KeepsIn {C} (phases.Lift v) items = KeepsLifting C v items
KeepsIn {C} (phases.Pack v) items = KeepsPacking C v items
KeepsIn {C} (phases.Lay v) items = KeepsLaying C v items

-- the same over a shelf
abbrev pub IsOver : {C : ℕ} → Phase C → List Item → List Item → Type 0
IsOver {C} (phases.Lift v) items shelf = Lifts C v items shelf
IsOver {C} (phases.Pack v) items shelf = Packs C v items shelf
IsOver {C} (phases.Lay v) items shelf = Lays C v items shelf

-- while objects are lifted, what the checkpoint holds ends where the layout does that the flush began with
abbrev pub LowIn : {C : ℕ} → Phase C → Extents → Type 0
LowIn (phases.Lift v) e = AllEndBy e.kept (end_of v.course.k v.course.caps)
LowIn (phases.Pack v) e = Unit {0}
LowIn (phases.Lay v) e = Unit {0}

-- the phase that makes a move, and where it has none left
abbrev pub StepIn : {C : ℕ} → Phase C → PlanState → Move → Type 0
StepIn (phases.Lift v) p mv = IsLiftStep p mv
StepIn (phases.Pack v) p mv = IsPackStep p mv
StepIn (phases.Lay v) p mv = IsLayStep p mv

abbrev pub AtEnd : {C : ℕ} → Phase C → PlanState → Type 0
AtEnd (phases.Lift v) p = IsLifted p
AtEnd (phases.Pack v) p = IsPackedWhole p
AtEnd (phases.Lay v) p = IsLaidWhole p

-- the numbers of the moving tables that a phase saves; Lift saves none
abbrev pub saving_in : {C : ℕ} → Phase C → Option Numbers
saving_in (phases.Lift v) = None
saving_in (phases.Pack v) = Some v.course.numbers
saving_in (phases.Lay v) = Some v.course.numbers

-- Lift comes before Pack, and Pack before Lay
abbrev pub rank_of : {C : ℕ} → Phase C → ℕ
rank_of (phases.Lift v) = 0
rank_of (phases.Pack v) = 1
rank_of (phases.Lay v) = 2

-- the bytes of a class that were moved at most, where the flush began with Lift
abbrev pub moved_in : {C : ℕ} → Phase C → PlanState → ℕ → ℕ
moved_in (phases.Lift v) p c = lifted_in p c
moved_in (phases.Pack v) p c = lifted_in p c + packed_in p c
moved_in (phases.Lay v) p c = class_total p.items c + laid_in p c

-- as many steps may still come, that of the settled table among them
abbrev pub steps_of : {C : ℕ} → Phase C → PlanState → ℕ
steps_of (phases.Lift v) p = length (filter (is_below_wall p.numbers) p.items) + length p.items + 1
steps_of (phases.Pack v) p = to_pack p + length p.items + 1
steps_of (phases.Lay v) p = to_lay p + 1

abbrev pub steps_left : {C : ℕ} → Phase C → Extents → ℕ
steps_left s e = steps_of s (phase_in s e)

-- the saves since the sequence was q are paid by the bytes that were packed, or laid
pub record PaidInPack (q : ℕ) (x : HandsValue) (p : PlanState) : Type 0 where
  pub pay : ℕ
  pub total : ℕ
  pub paid : PacksPaid pay total q x p
  pub enough : total < p.k * pay

pub record PaidInLay (q : ℕ) (x : HandsValue) (p : PlanState) : Type 0 where
  pub pay : ℕ
  pub total : ℕ
  pub mid : ℕ
  pub packed : mid < q + p.k
  pub paid : LaysPaid pay total mid x p
  pub enough : total < p.k * pay

abbrev pub PaidIn : {C : ℕ} → ℕ → Phase C → HandsValue → Type 0
PaidIn q (phases.Lift v) x = x.in_use.sequence ≡ q
PaidIn q (phases.Pack v) x = PaidInPack q x (phase_now v.course x.table)
PaidIn q (phases.Lay v) x = PaidInLay q x (phase_now v.course x.table)

-- A flush may go on: between any two moves the parts belong together with the phase, and the disk is in
-- flight.
pub record GoesOn {C : ℕ} (f : FlushFrame) (s : Phase C) (x : HandsValue) (d : State) : Type 0 where
  pub goes : BetweenMoves C f x.caps x.grid x (phase_in s x.table) d
  pub low : LowIn s x.table

-- One more step may be made: the sequence leaves room for its save.
pub record CanAdvance {C : ℕ} (f : FlushFrame) (s : Phase C) (x : HandsValue) (d : State) : Type 0 where
  pub on : GoesOn f s x d
  pub saves : LeavesSaves f x.in_use.sequence 0
