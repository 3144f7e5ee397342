-- What a flush leaves: each item at its new place, in the new payload segment of its class.
use Rattle.std.specs.Prelude.{◌≡◌, ℕ, ◌+◌, ◌<◌, ◌≤◌, List, IsTrue, slice_index}
use Rattle.size_class.specs.Classes.{width}
use Rattle.segment_layout.specs.Shapes.{end_of, settled_caps, start_of}
use Rattle.flush_model.specs.declared.item.Item.{Item}
use Rattle.flush_model.specs.Plans.{AreBelow, class_total, sizes_before, stands_in_payload}
use Rattle.flush_model.specs.Phases.{IsLaidWhole, IsLaying, PlanState}

-- what is kept once all is laid
pub record KeepsSettled (C : ℕ) (p : PlanState) (volumes : List ℕ) : Type 0 where
  pub fits : C ≤ width
  pub laying : IsLaying p
  pub laid : IsLaidWhole p
  pub classes : AreBelow C p.items
  pub totals : (c : ℕ) → c < C → slice_index volumes c ≡ class_total p.items c

-- what is handed on at the end: the phase and the bytes of each class
pub record Settlement : Type 0 where
  pub phase : PlanState
  pub volumes : List ℕ

-- the capacities once the classes from the boundary on are laid out anew, and where that layout ends
abbrev pub new_caps : Settlement → List ℕ
new_caps s = settled_caps s.phase.numbers.boundary s.phase.caps s.volumes

abbrev pub new_end : Settlement → ℕ
new_end s = end_of s.phase.k (new_caps s)

-- an item stands where its new payload segment begins, behind those of its class before it, and within that
-- segment
pub record IsPlaced (s : Settlement) (it : Item) : Type 0 where
  pub place : it.place
      ≡ start_of s.phase.k (new_caps s) it.class + sizes_before s.phase.items it.class it.place
  pub within : IsTrue (stands_in_payload s.phase.k (new_caps s) it)
