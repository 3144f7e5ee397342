-- How far Lift has come: what stands before a place is lifted, or stands in its payload segment.
use Rattle.std.specs.Prelude.{◌≡◌, ◌⊎◌, ℕ, ◌+◌, ◌<◌, ◌≤◌, false, List, Contains, IsTrue}
use Rattle.size_class.specs.Classes.{width}
use Rattle.flush_model.specs.declared.item.Item.{Item}
use Rattle.flush_model.specs.Plans.{AreBelow, AreSmall, IsInBuffer, lifted_bytes, stands_in_payload}
use Rattle.flush_model.specs.Phases.{IsLifting}
use Rattle.flush_plan.specs.Shelves.{PlanFrame, IsOnShelf, phase_on}

-- the value of Lift: where it goes on from, and where the next object goes to
pub record Lift : Type 0 where
  pub course : PlanFrame
  pub from : ℕ
  pub to : ℕ

-- each item below the wall that stands before a place stands in its payload segment
abbrev pub ArePassed : PlanFrame → List Item → ℕ → Type 0
ArePassed c items from = (it : Item) → Contains items it → it.place < from → it.place < c.numbers.wall
    → IsTrue (stands_in_payload c.k c.caps it)

-- What Lift keeps of its items: each below the wall stands in its payload segment or in a buffer, and in its
-- payload segment where it stands before the place that Lift has come to.
pub record KeepsLifting (C : ℕ) (v : Lift) (items : List Item) : Type 0 where
  pub fits : C ≤ width
  pub boundary : v.course.numbers.boundary ≤ C
  pub divisor : 2 ≤ v.course.k
  pub lifting : IsLifting (phase_on v.course items)
  pub classes : AreBelow C items
  pub small : AreSmall v.course.numbers items
  pub stands : (it : Item) → Contains items it → it.place < v.course.numbers.wall
      → IsTrue (stands_in_payload v.course.k v.course.caps it)
      ⊎ ((j : ℕ) × IsInBuffer v.course.k v.course.caps j it)
  pub low : v.course.numbers.start ≤ v.from
  pub passed : ArePassed v.course items v.from
  pub goes : v.to ≡ v.course.numbers.wall + lifted_bytes v.course.numbers v.course.pending items

-- Lift goes on over these items, which stand on this shelf.
pub record Lifts (C : ℕ) (v : Lift) (items shelf : List Item) : Type 0 where
  pub keeps : KeepsLifting C v items
  pub on : IsOnShelf v.course.numbers.start items shelf

-- this item is the first below the wall that doesn't stand in its payload segment
pub record IsFirstUnlifted (c : PlanFrame) (items : List Item) (m : Item) : Type 0 where
  pub has : Contains items m
  pub below : m.place < c.numbers.wall
  pub outside : stands_in_payload c.k c.caps m ≡ false
  pub first : ArePassed c items m.place
