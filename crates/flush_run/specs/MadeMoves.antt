-- One move of a flush, with the save before it where its target is held.
use Rattle.std.specs.Prelude.{◌≡◌, ℕ, ◌+◌, ◌-◌, ◌^◌, ◌<◌, ◌≤◌, Bool, if◌then◌else◌, min, List, length, slice_index, slice_set, Option, Some, None, IsFalse, IsNone, IsTrue}
use Rattle.disk_face.specs.States.{State}
use Rattle.data_area.specs.Pieces.{pieces}
use Rattle.size_class.specs.Classes.{class_of}
use Rattle.slot_codec.specs.declared.codec.Header.{Header}
use Rattle.slot_pair.specs.Saves.{save_calls}
use Rattle.span_math.specs.declared.span.Span.{Span}
use Rattle.segment_layout.specs.Shapes.{is_boundary}
use Rattle.extent_table.specs.Extents.{records_of}
use Rattle.placement_model.specs.Laid.{in_version, moving_header}
use Rattle.flush_model.specs.declared.item.Move.{Move}
use Rattle.flush_model.specs.declared.item.Numbers.{Numbers}
use Rattle.flush_model.specs.Phases.{PlanState}
use Rattle.flush_model.specs.Plans.{IsSafe, ItemsCanResume}
use Rattle.flush_model.specs.Steps.{IsMover}
use Rattle.flush_run.specs.FlushFrames.{FlushFrame}
use Rattle.flush_run.specs.Hands.{AllEndBy}
use Rattle.flush_run.specs.Loops.{CanSave}
use Rattle.flush_run.specs.Moves.{CanMove, FreesTarget, HasMoved}
use Rattle.flush_run.specs.Parts.{HandsValue, KeepsOn}
use Rattle.flush_run.specs.Saves.{IsSaveable}

-- the row of the ledger after a move
abbrev pub RowMoves : Move → List ℕ → List ℕ → Type 0
RowMoves mv old new = new
    ≡ slice_set old (class_of mv.size) (min (slice_index old (class_of mv.size) + mv.size) (2 ^ 64 - 1))

-- the calls of a save of so many records, where one is made
abbrev pub calls_of_save : Bool → ℕ → ℕ
calls_of_save saved n = if saved then save_calls n else 0

-- numbers that the header of a moving table can have
pub record HasHeader (classes : ℕ) (grid : List (List ℕ)) (n : Numbers) : Type 0 where
  pub class : n.boundary < classes
  pub boundary : IsTrue (is_boundary grid n.boundary)
  pub wall : n.wall < 2 ^ 48
  pub slack : n.slack < 2 ^ 48

-- that header, in the version of the parts
abbrev pub header_of : HandsValue → Numbers → Header
header_of x n = in_version x.version (moving_header n.boundary n.wall n.slack x.caps x.grid)

-- what stands now can be saved under it
abbrev pub CanSaveAs : FlushFrame → HandsValue → Numbers → Type 0
CanSaveAs f x n = IsSaveable f x.in_use x.table (header_of x n)

-- What a move asks of its target: that what stands now can be saved under the numbers, and where there are
-- none, that nothing is held there, since what the checkpoint holds ends before it.
abbrev pub MayTake : Option Numbers → HandsValue → PlanState → Move → Type 0
MayTake None x p mv = AllEndBy x.table.kept mv.to
MayTake (Some n) x p mv = (n ≡ p.numbers) × ItemsCanResume p.k p.numbers p.items

-- What a move may count on.
pub record CanMakeMove (classes : ℕ) (f : FlushFrame) (x : HandsValue) (p : PlanState)
    (saving : Option Numbers) (mv : Move) (d : State) : Type 0 where
  pub ready : CanSave classes f x.caps x.grid x p d
  pub item : IsMover p mv
  pub safe : IsSafe p.numbers p.items mv
  pub takes : MayTake saving x p mv

-- The target was freed, by a save where the guard held a byte of it and by none else; then the object was
-- moved. `mid` has the parts between the two.
pub record HasMadeMove (mv : Move) (saving : Option Numbers) (first now : State)
    (x0 x : HandsValue) : Type 0 where
  pub mid : HandsValue
  pub saved : Bool
  pub unsaved : IsNone saving → IsFalse saved
  pub target : Span
  pub place : target.place ≡ mv.to
  pub size : target.size ≡ mv.size
  pub frees : FreesTarget saved target x0.in_use mid.in_use x0.table mid.table x0.spans mid.spans
  pub can : CanMove mv mid.table mid.spans
  pub moved : HasMoved mv mid.table x.table mid.spans x.spans
  pub slots : x.in_use ≡ mid.in_use
  pub keeps : KeepsOn first now x0 x
  pub row : RowMoves mv x0.moved x.moved
  pub turns : now.turn ≤ first.turn + calls_of_save saved (length (records_of x0.table.now))
      + pieces 65536 mv.size
  pub calm : now.faults ≡ first.faults

-- A device call failed: each object stands where it stood, and no byte was counted as moved. A save may have
-- been made.
pub record HasNotMoved (mv : Move) (first now : State) (x0 x : HandsValue) : Type 0 where
  pub keeps : KeepsOn first now x0 x
  pub spots : x.table.now ≡ x0.table.now
  pub later : x0.in_use.sequence ≤ x.in_use.sequence
  pub one : x.in_use.sequence ≤ x0.in_use.sequence + 1
  pub row : x.moved ≡ x0.moved
  pub turns : now.turn ≤ first.turn + save_calls (length (records_of x0.table.now)) + pieces 65536 mv.size
