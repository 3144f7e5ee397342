-- What it is that the moves of a change, and of a session, are paid for.
use Rattle.std.specs.Prelude.{◌≡◌, ℕ, ◌+◌, ◌*◌, ◌≤◌, List, slice_index}
use Rattle.size_class.specs.Classes.{width}
use Rattle.map_model.specs.Maps.{Map}
use Rattle.map_model.specs.Requests.{Change}
use Rattle.segment_layout.specs.Books.{Book}
use Rattle.segment_layout.specs.Balance.{IsBalanced}
use Rattle.move_cost.specs.Costs.{IsCost, factor, weigh, potential}
use Rattle.cost_laws.specs.Asked.{asked_row}
use Rattle.cost_laws.specs.Cells.{HasNoneFrom}

-- A balanced book of a map, with no entries in buffers from C on, and a cost for each class below C.
pub record IsWeighed (C k : ℕ) (cost : ℕ → ℕ) (m : Map) (book : Book) : Type 0 where
  pub fits : C ≤ width
  pub is_cost : IsCost C cost
  pub low : 2 ≤ k
  pub high : k ≤ 64
  pub balanced : IsBalanced k m book
  pub within : HasNoneFrom C book.grid

-- the moved bytes are paid for by what is asked and by what the potential falls
abbrev pub ArePaid : (C k : ℕ) (cost : ℕ → ℕ) (moved asked : List ℕ) (old new : List (List ℕ)) → Type 0
ArePaid C k cost moved asked old new =
    weigh C cost moved + potential C cost k new ≤ factor k * weigh C cost asked + potential C cost k old

-- the bytes asked before and after a change of a map
abbrev pub AsksNext : Map → Change → List ℕ → List ℕ → Type 0
AsksNext m c old new = (d : ℕ) → slice_index new d ≡ slice_index old d + slice_index (asked_row m c) d

-- What was moved in a session is paid for by what was asked and by so much at first, beside the potential
-- now.
abbrev pub IsPaid : (C k : ℕ) (cost : ℕ → ℕ) (first : ℕ) (moved asked : List ℕ) (grid : List (List ℕ))
    → Type 0
IsPaid C k cost first moved asked grid =
    weigh C cost moved + potential C cost k grid ≤ factor k * weigh C cost asked + first
