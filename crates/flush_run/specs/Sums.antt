-- What a flush sums up to over its steps, whatever comes between them.
use Rattle.std.specs.Prelude.{◌≡◌, ℕ, ◌+◌, ◌-◌, ◌*◌, ◌<◌, ◌≤◌, List, slice_index}
use Rattle.std.specs.FinMap as fin
use Rattle.disk_face.specs.States.{State}
use Rattle.extent_table.specs.Extents.{Spots}
use Rattle.flush_model.specs.declared.item.Item.{Item}
use Rattle.flush_model.specs.Plans.{class_total}
use Rattle.flush_run.specs.Calls.{CallsSoFar}
use Rattle.flush_run.specs.Parts.{HandsValue, SameSizes}
use Rattle.flush_run.specs.Phases.{course_in, items_in, moved_in, phase_in}
use Rattle.flush_run.specs.declared.phase.Phase.{Phase}

-- where a flush began: the changing calls that had ended, the bytes moved, the sequence, where the objects
-- stood, and its items
pub record Mark : Type 0 where
  pub turn : ℕ
  pub moved : List ℕ
  pub sequence : ℕ
  pub spots : Spots
  pub items : List Item

abbrev pub mark_of : {C : ℕ} → Phase C → HandsValue → State → Mark
mark_of s x d = record {
  turn = d.turn;
  moved = x.moved;
  sequence = x.in_use.sequence;
  spots = x.table.now;
  items = items_in s x.table;
}

-- What its steps made so far: each name has an object of the same size; no byte of a class below the boundary
-- was moved, and of the others those that the phase has done; and the calls are those of the bytes moved and
-- of the saves.
pub record SumsSoFar {C : ℕ} (m : Mark) (s : Phase C) (x : HandsValue) (d : State) : Type 0 where
  pub totals : (c : ℕ) → class_total (items_in s x.table) c ≡ class_total m.items c
  pub sizes : SameSizes m.spots x.table.now
  pub later : m.sequence ≤ x.in_use.sequence
  pub lower : (c : ℕ) → c < (course_in s).numbers.boundary → slice_index x.moved c ≡ slice_index m.moved c
  pub rises : (c : ℕ) → slice_index x.moved c ≤ slice_index m.moved c + moved_in s (phase_in s x.table) c
  pub calls : CallsSoFar m.turn d.turn m.moved x.moved 0 (x.in_use.sequence - m.sequence) (fin.len m.spots)

-- What they made at the end, wherever that came: of each class from the boundary on at most twice the bytes
-- of the items were moved; the calls are so many more.
pub record SumsUp (m : Mark) (b more saves : ℕ) (x : HandsValue) (d : State) : Type 0 where
  pub sizes : SameSizes m.spots x.table.now
  pub later : m.sequence ≤ x.in_use.sequence
  pub lower : (c : ℕ) → c < b → slice_index x.moved c ≡ slice_index m.moved c
  pub few : (c : ℕ) → slice_index x.moved c ≤ slice_index m.moved c + 2 * class_total m.items c
  pub calls : CallsSoFar m.turn d.turn m.moved x.moved more (x.in_use.sequence - m.sequence + saves)
      (fin.len m.spots)
