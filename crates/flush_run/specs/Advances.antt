-- What one step of a flush makes.
use Rattle.std.specs.Prelude.{◌≡◌, ℕ, ◌+◌, ◌≤◌, Bool, true, false, if◌then◌else◌, List, length, Some}
use Rattle.std.specs.FinMap as fin
use Rattle.disk_face.specs.Counts.{counted}
use Rattle.disk_face.specs.States.{State}
use Rattle.data_area.specs.Pieces.{pieces}
use Rattle.slot_pair.specs.Saves.{next_in_use, save_calls}
use Rattle.extent_table.specs.declared.spot.Spot.{Spot}
use Rattle.extent_table.specs.Extents.{Spots, records_of}
use Rattle.flush_model.specs.declared.item.Move.{Move}
use Rattle.flush_model.specs.Phases.{moved_by}
use Rattle.flush_run.specs.Calls.{piece_calls}
use Rattle.flush_run.specs.MadeMoves.{RowMoves, calls_of_save}
use Rattle.flush_run.specs.Moves.{moved_spot}
use Rattle.flush_run.specs.Parts.{HandsValue, KeepsOn, KeepsSettling, SameSizes}
use Rattle.flush_run.specs.Phases.{AtEnd, StepIn, course_in, phase_in, rank_of}
use Rattle.flush_run.specs.declared.phase.Phase.{Phase}

-- One name's object stands at the target of a move, and each other one where it stood.
pub record MovesObject (mv : Move) (old new : Spots) : Type 0 where
  pub name : List ℕ
  pub spot : Spot
  pub there : fin.get old name ≡ Some spot
  pub size : spot.size ≡ mv.size
  pub now : new ≡ fin.insert old name (moved_spot spot mv.to)

-- One object was moved, the next one of its phase, and its bytes are counted. A save was made before it, or
-- none. The calls are those of the save and of the pieces of the object.
pub record HasAdvanced {C : ℕ} (s0 s : Phase C) (x0 x : HandsValue) (first now : State) : Type 0 where
  pub course : course_in s ≡ course_in s0
  pub same : rank_of s ≡ rank_of s0
  pub mv : Move
  pub step : StepIn s0 (phase_in s0 x0.table) mv
  pub after : phase_in s x.table ≡ moved_by mv (phase_in s0 x0.table)
  pub saved : Bool
  pub pair : x.in_use ≡ (if saved then next_in_use x0.in_use else x0.in_use)
  pub full : length x0.moved ≡ 32
  pub row : RowMoves mv x0.moved x.moved
  pub object : MovesObject mv x0.table.now x.table.now
  pub kept : x.table.kept ≡ (if saved then x0.table.now else x0.table.kept)
  pub sizes : SameSizes x0.table.now x.table.now
  pub keeps : KeepsOn first now x0 x
  pub turns : now.turn ≤ first.turn + calls_of_save saved (length (records_of x0.table.now))
      + pieces 65536 mv.size
  pub calm : now.faults ≡ first.faults

-- The phase has no move left, and nothing changed.
pub record FindsEnd {C : ℕ} (s0 s : Phase C) (x0 x : HandsValue) : Type 0 where
  pub phase : s ≡ s0
  pub parts : x ≡ x0
  pub end : AtEnd s0 (phase_in s0 x0.table)

-- what a step made, by its answer
abbrev pub HasStepped : {C : ℕ} → Bool → Phase C → Phase C → HandsValue → HandsValue → State → State → Type 0
HasStepped true s0 s x0 x first now = HasAdvanced s0 s x0 x first now
HasStepped false s0 s x0 x first now = FindsEnd s0 s x0 x

-- Each object lies in its new place. The settled table was saved, the file cut, and the disk synced.
pub record HasEnded (x0 x : HandsValue) (first now : State) : Type 0 where
  pub pair : x.in_use ≡ next_in_use x0.in_use
  pub spots : x.table.now ≡ x0.table.now
  pub row : x.moved ≡ x0.moved
  pub keeps : KeepsSettling first now x0 x
  pub turns : now.turn ≡ counted first.turn (save_calls (length (records_of x0.table.now)) + 2)

-- A device call failed: each object stands where it stood, and no byte was counted as moved. A save may have
-- been made.
pub record HasStopped (x0 x : HandsValue) (first now : State) : Type 0 where
  pub spots : x.table.now ≡ x0.table.now
  pub later : x0.in_use.sequence ≤ x.in_use.sequence
  pub one : x.in_use.sequence ≤ x0.in_use.sequence + 1
  pub row : x.moved ≡ x0.moved
  pub keeps : KeepsSettling first now x0 x
  pub turns : now.turn ≤ first.turn + save_calls (length (records_of x0.table.now)) + (piece_calls + 2)
