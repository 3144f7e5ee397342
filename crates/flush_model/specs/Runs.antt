-- Moves of a flush, one after another, and how often one object is moved.
use Rattle.std.specs.Prelude.{◌≡◌, ℕ, ◌+◌, ◌-◌, ◌≤◌, ◌==◌, cond, List, [], ◌∷◌, filter, length, Contains}
use Rattle.flush_model.specs.declared.item.Item.{Item}
use Rattle.flush_model.specs.declared.item.Move.{Move}
use Rattle.flush_model.specs.Plans.{class_total, IsNextLay, IsNextLift, IsNextPack}
use Rattle.flush_model.specs.Phases.{IsLaying, IsLifted, IsLifting, IsPacking, laid_in, lifted_in, moved_by, packed_in, PlanState}

-- the phase once all moves of a list are made
abbrev pub after_moves : List Move → PlanState → PlanState
after_moves [] p = p
after_moves (mv ∷ rest) p = after_moves rest (moved_by mv p)

-- each move of a list is the next one of Lift, of Pack, of Lay, as the objects stand then
abbrev pub AreLifts : List Move → PlanState → Type 0
AreLifts [] p = Unit {0}
AreLifts (mv ∷ rest) p = IsNextLift p.k p.caps p.numbers p.pending p.items mv × AreLifts rest (moved_by mv p)

abbrev pub ArePacks : List Move → PlanState → Type 0
ArePacks [] p = Unit {0}
ArePacks (mv ∷ rest) p = IsNextPack p.numbers p.items mv × ArePacks rest (moved_by mv p)

abbrev pub AreLays : List Move → PlanState → Type 0
AreLays [] p = Unit {0}
AreLays (mv ∷ rest) p = IsNextLay p.k p.numbers p.items mv × AreLays rest (moved_by mv p)

-- how many of the moves take the object of a key
abbrev pub moves_of : ℕ → List Move → ℕ
moves_of key moves = length (filter (λ mv. mv.key == key) moves)

-- the pending item stands at the end of what the file reaches
abbrev pub IsLast : PlanState → Item → Type 0
IsLast p it = Contains p.items it × (p.numbers.reach - p.pending ≤ it.place)

-- Lift and Pack together move each object at most once, and the pending one not at all.
abbrev pub LiftsOrPacksOnce : Type 0
LiftsOrPacksOnce = (p : PlanState) (lifts packs : List Move) → IsLifting p → AreLifts lifts p
    → IsLifted (after_moves lifts p) → ArePacks packs (after_moves lifts p) → (key : ℕ)
    → (moves_of key lifts + moves_of key packs ≤ 1)
    × ((it : Item) → IsLast p it → it.key ≡ key → moves_of key lifts + moves_of key packs ≡ 0)

-- Lay moves each object at most once. So a flush moves each object at most twice, the pending one once.
abbrev pub LaysOnce : Type 0
LaysOnce = (p : PlanState) (lays : List Move) → IsLaying p → AreLays lays p → (key : ℕ)
    → moves_of key lays ≤ 1

-- The bytes of a class that are lifted and those that are packed are together at most the class's, and where
-- an object is pending they leave out its bytes; those that are laid are at most the class's.
pub record MovesFewBytes (p : PlanState) (c : ℕ) : Type 0 where
  pub lifted : lifted_in p c + packed_in p c ≤ class_total p.items c
  pub pending : (it : Item) → IsLast p it → p.numbers.wall ≤ it.place
      → lifted_in p c + packed_in p c + cond (it.class == c) it.size 0 ≤ class_total p.items c
  pub laid : laid_in p c ≤ class_total p.items c

-- The next move is one: where the objects stand says which it is.
pub record NextIsOne (p : PlanState) (a b : Move) : Type 0 where
  pub lift : IsLifting p → IsNextLift p.k p.caps p.numbers p.pending p.items a
      → IsNextLift p.k p.caps p.numbers p.pending p.items b → a ≡ b
  pub pack : IsPacking p → IsNextPack p.numbers p.items a → IsNextPack p.numbers p.items b → a ≡ b
  pub lay : IsLaying p → IsNextLay p.k p.numbers p.items a → IsNextLay p.k p.numbers p.items b → a ≡ b
