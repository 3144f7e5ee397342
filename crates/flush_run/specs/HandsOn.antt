-- How a phase of a flush hands over to the next one, or to the end.
use Rattle.std.specs.Prelude.{◌≡◌, ℕ, ◌+◌}
use Rattle.extent_table.specs.Extents.{Extents}
use Rattle.flush_model.specs.Phases.{PaysFor, bytes_below}
use Rattle.flush_plan.specs.Lays.{End, HasSettled}
use Rattle.flush_run.specs.Shelved.{items_now, phase_now}
use Rattle.flush_run.specs.Phases.{KeepsIn, course_in, items_in, rank_of}
use Rattle.flush_run.specs.declared.phase.Onward.{Onward}
use Rattle.flush_run.specs.declared.phase.Onward.TheVariants as onward
use Rattle.flush_run.specs.declared.phase.Phase.{Phase}
use Rattle.flush_run.specs.declared.phase.Phase.TheVariants as phases

-- where Lift ended, the slack pays for the saves of what is below the wall
abbrev pub PaysOn : {C : ℕ} → Phase C → Extents → Type 0
PaysOn (phases.Lift v) e = Unit {0}
PaysOn (phases.Pack v) e = PaysFor (phase_now v.course e) (bytes_below (phase_now v.course e))
PaysOn (phases.Lay v) e = Unit {0}

-- The next phase has the same numbers, and keeps of the same items what it has to keep.
pub record GoesNext {C : ℕ} (s0 s : Phase C) (e : Extents) : Type 0 where
  pub course : course_in s ≡ course_in s0
  pub next : rank_of s ≡ rank_of s0 + 1
  pub keeps : KeepsIn s (items_in s e)
  pub pays : rank_of s0 ≡ 0 → PaysOn s e

-- Behind Lay each item lies in its new place.
pub record GoesToEnd {C : ℕ} (s0 : Phase C) (v : End) (e : Extents) : Type 0 where
  pub course : v.course ≡ course_in s0
  pub last : rank_of s0 ≡ 2
  pub settled : HasSettled C v (items_now v.course e)

abbrev pub HandsOn : {C : ℕ} → Phase C → Onward C → Extents → Type 0
HandsOn s0 (onward.Next s) e = GoesNext s0 s e
HandsOn s0 (onward.End v) e = GoesToEnd s0 v e
