-- A list in the order of places that holds the objects of a phase. The number k is the divisor of the layout
-- that the flush began with.
use Rattle.std.specs.Prelude.{◌≡◌, ℕ, List, IsPermutation}
use Rattle.std.specs.List.Sorted.{IsNonDecreasingBy}
use Rattle.flush_model.specs.declared.item.Item.{Item}
use Rattle.flush_plan.specs.Shelves.{PlanFrame}
use Rattle.flush_plan.specs.Lifts.{KeepsLifting, Lift}
use Rattle.flush_plan.specs.Packs.{KeepsPacking, Pack}
use Rattle.flush_plan.specs.Lays.{KeepsLaying, Lay}

-- the objects that a phase keeps
pub record PhaseList (course : PlanFrame) (Keeps : List Item → Type 0) (k : ℕ) (xs : List Item) : Type 0
  where
    pub items : List Item
    pub divisor : course.k ≡ k
    pub keeps : Keeps items
    pub same : IsPermutation items xs
    pub rising : IsNonDecreasingBy (λ (it : Item). it.place) xs

-- those of Lift
abbrev pub LiftsList : ℕ → ℕ → Lift → List Item → Type 0
LiftsList C k v xs = PhaseList v.course (KeepsLifting C v) k xs

-- those of Pack
abbrev pub PacksList : ℕ → ℕ → Pack → List Item → Type 0
PacksList C k v xs = PhaseList v.course (KeepsPacking C v) k xs

-- those of Lay
abbrev pub LaysList : ℕ → ℕ → Lay → List Item → Type 0
LaysList C k v xs = PhaseList v.course (KeepsLaying C v) k xs
