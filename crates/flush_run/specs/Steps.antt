-- What one step of a flush makes, for whoever does other work between two of them.
use Rattle.std.specs.Prelude.{◌≡◌, ℕ, ◌+◌, ◌*◌, ◌≤◌, Option, Some, None, Result, Ok, Err}
use Rattle.disk_face.specs.States.{State}
use Rattle.extent_table.specs.Extents.{Extents}
use Rattle.flush_plan.specs.Lays.{End}
use Rattle.flush_run.specs.Advances.{HasAdvanced, HasEnded, HasStopped}
use Rattle.flush_run.specs.FlushFrames.{FlushFrame}
use Rattle.flush_run.specs.Parts.{HandsValue}
use Rattle.flush_run.specs.Phases.{CanAdvance, GoesOn, KeepsIn, PaidIn, course_in, items_in, moved_in, phase_in, rank_of, steps_left}
use Rattle.flush_run.specs.Settling.{FlushEnds}
use Rattle.flush_run.specs.declared.phase.Phase.{Phase}
use Rattle.flush_run.specs.declared.one_step.Stepped.{Stepped}
use Rattle.flush_run.specs.declared.one_step.Stepped.TheVariants as stepped

-- A phase, or a later one that it was handed over to before a move: no fewer bytes are counted as done, and
-- no more steps are left.
pub record HandsOver {C : ℕ} (s0 s : Phase C) (e : Extents) : Type 0 where
  pub course : course_in s ≡ course_in s0
  pub onward : rank_of s0 ≤ rank_of s
  pub grows : (c : ℕ) → moved_in s0 (phase_in s0 e) c ≤ moved_in s (phase_in s e) c
  pub falls : steps_left s e ≤ steps_left s0 e

-- An object was moved by the phase, or by a later one that it was handed over to; one step fewer is left.
pub record HasMovedOne {C : ℕ} (s0 s : Phase C) (x0 x : HandsValue) (first now : State) : Type 0 where
  pub from : Phase C
  pub over : HandsOver s0 from x0.table
  pub move : HasAdvanced from s x0 x first now
  pub fewer : steps_left s x.table + 1 ≤ steps_left s0 x0.table

module _ {C : ℕ} {E : Type 0} where
  -- what a step answered that was made in place: it moved an object, or settled what stands
  abbrev pub stepped_of : Phase C → Result (Option End) E → Result (Stepped C) E
  stepped_of s (Ok None) = Ok (stepped.Moved s)
  stepped_of s (Ok (Some e)) = Ok (stepped.Settled e)
  stepped_of s (Err e) = Err e

  -- what a step made, by its answer
  abbrev pub MakesThen : Phase C → Result (Stepped C) E → HandsValue → HandsValue → State → State → Type 0
  MakesThen s0 (Ok (stepped.Moved s)) x0 x first now = HasMovedOne s0 s x0 x first now
  MakesThen s0 (Ok (stepped.Settled e)) x0 x first now = HasEnded x0 x first now
  MakesThen s0 (Err e) x0 x first now = HasStopped x0 x first now

  -- the flush goes on, or has ended
  abbrev pub GoesThen : FlushFrame → Result (Stepped C) E → HandsValue → State → Type 0
  GoesThen f (Ok (stepped.Moved s)) x d = GoesOn f s x d
  GoesThen f (Ok (stepped.Settled e)) x d = FlushEnds C f x d
  GoesThen f (Err e) x d = Unit {0}

  abbrev pub KeepsThen : Result (Stepped C) E → HandsValue → Type 0
  KeepsThen (Ok (stepped.Moved s)) x = KeepsIn s (items_in s x.table)
  KeepsThen (Ok (stepped.Settled e)) x = Unit {0}
  KeepsThen (Err e) x = Unit {0}

  -- the saves since the sequence was q are paid; at the end they are at most twice k
  abbrev pub PaidThen : ℕ → Result (Stepped C) E → HandsValue → Type 0
  PaidThen q (Ok (stepped.Moved s)) x = PaidIn q s x
  PaidThen q (Ok (stepped.Settled e)) x = x.in_use.sequence ≤ q + 2 * x.in_use.block.k
  PaidThen q (Err e) x = Unit {0}

-- What holds in a step before its move: the phases so far had none left, and nothing changed.
pub record InStep {C : ℕ} (x0 x : HandsValue) (s0 s : Phase C) (d : State) : Type 0 where
  pub parts : x ≡ x0
  pub over : HandsOver s0 s x.table
  pub keeps : KeepsIn s (items_in s x.table)
  pub paid : (q : ℕ) → PaidIn q s0 x → PaidIn q s x
  pub goes : (f : FlushFrame) → CanAdvance f s0 x d → CanAdvance f s x d
