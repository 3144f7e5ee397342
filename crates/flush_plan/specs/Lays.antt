-- How far Lay has come: the classes before one are laid, and of that one what stands before a place.
use Rattle.std.specs.Prelude.{◌≡◌, ◌⊎◌, ℕ, ◌<◌, ◌≤◌, List, Contains, slice_index}
use Rattle.size_class.specs.Classes.{width}
use Rattle.flush_model.specs.declared.item.Item.{Item}
use Rattle.flush_model.specs.declared.item.Numbers.{Numbers}
use Rattle.flush_model.specs.Plans.{AreBelow, AreSmall, class_total, final_place, IsLaid, sizes_before}
use Rattle.flush_model.specs.Phases.{IsLaidWhole, IsLaying}
use Rattle.flush_model.specs.Settlements.{IsPlaced, new_end, Settlement}
use Rattle.flush_plan.specs.Shelves.{PlanFrame, IsOnShelf, phase_on}

-- The value of Lay: the bytes of each class; the class that is laid, or the number of classes at the end;
-- where the next of its objects goes, and a place past the wall before which none of its objects stands past
-- it.
pub record Lay : Type 0 where
  pub course : PlanFrame
  pub volumes : List ℕ
  pub class : ℕ
  pub to : ℕ
  pub ahead : ℕ

-- an item is of a class before one, or of that class and stands before a place
abbrev pub IsFront : ℕ → ℕ → Item → Type 0
IsFront class to it = (it.class < class) ⊎ ((it.class ≡ class) × (it.place < to))

-- The items at the front are laid, and no others are. Where the class is one below C, the next of its items
-- goes to the place; past the wall none of them stands before the other place.
pub record IsLaidTo (C k : ℕ) (n : Numbers) (items : List Item) (class to ahead : ℕ) : Type 0 where
  pub laid : (it : Item) → Contains items it → IsFront class to it → IsLaid k n items it
  pub waits : (it : Item) → Contains items it → IsLaid k n items it → IsFront class to it
  pub goes : class < C → to ≡ final_place k n items class to
  pub past : n.wall ≤ ahead
  pub behind : (it : Item) → Contains items it → it.class ≡ class → n.wall ≤ it.place → ahead ≤ it.place

-- the first class from one on that has bytes, or C where none has
pub record IsNextClass (C : ℕ) (volumes : List ℕ) (from class : ℕ) : Type 0 where
  pub above : from ≤ class
  pub within : class ≤ C
  pub empty : (c : ℕ) → from ≤ c → c < class → slice_index volumes c ≡ 0
  pub some : class < C → 0 < slice_index volumes class

-- What Lay keeps of its items: how far they are laid, and that one of the class isn't laid yet.
pub record KeepsLaying (C : ℕ) (v : Lay) (items : List Item) : Type 0 where
  pub fits : C ≤ width
  pub laying : IsLaying (phase_on v.course items)
  pub classes : AreBelow C items
  pub small : AreSmall v.course.numbers items
  pub totals : (c : ℕ) → c < C → slice_index v.volumes c ≡ class_total items c
  pub low : v.course.numbers.boundary ≤ v.class
  pub high : v.class ≤ C
  pub front : IsLaidTo C v.course.k v.course.numbers items v.class v.to v.ahead
  pub some : v.class < C → sizes_before items v.class v.to < class_total items v.class

-- Lay goes on over these items, which stand on this shelf.
pub record Lays (C : ℕ) (v : Lay) (items shelf : List Item) : Type 0 where
  pub keeps : KeepsLaying C v items
  pub on : IsOnShelf v.course.numbers.start items shelf

-- what isn't laid of the class stands past the wall
abbrev pub StandsPast : Lay → List Item → Type 0
StandsPast v items = (it : Item) → Contains items it → it.class ≡ v.class → v.to ≤ it.place
    → v.course.numbers.wall ≤ it.place

-- the value at the end
pub record End : Type 0 where
  pub course : PlanFrame
  pub volumes : List ℕ

abbrev pub settlement_on : End → List Item → Settlement
settlement_on v items = record { phase = phase_on v.course items; volumes = v.volumes }

-- at the end each item is laid, in the new payload segment of its class
pub record HasSettled (C : ℕ) (v : End) (items : List Item) : Type 0 where
  pub laying : IsLaying (phase_on v.course items)
  pub laid : IsLaidWhole (phase_on v.course items)
  pub totals : (c : ℕ) → c < C → slice_index v.volumes c ≡ class_total items c
  pub below : (c : ℕ) → c < v.course.numbers.boundary → slice_index v.volumes c ≡ 0
  pub placed : (it : Item) → Contains items it → IsPlaced (settlement_on v items) it
  pub end : new_end (settlement_on v items) ≡ v.course.numbers.end
