-- A flush begins: its items, with the pending one behind the room for what is lifted, are as Lift keeps them.
use Rattle.std.specs.Prelude.{◌≡◌, ◌≢◌, ℕ, ◌+◌, ◌^◌, ◌≤◌, not, List, [], ◌∷◌, ◌++◌, Contains, Option, Some, None}
use Rattle.size_class.specs.Classes.{class_of}
use Rattle.flush_model.specs.declared.item.Item.{Item}
use Rattle.flush_model.specs.declared.item.Numbers.{Numbers}
use Rattle.flush_model.specs.Plans.{numbers_of, stands_in_payload, weight}
use Rattle.flush_model.specs.Phases.{CanFlush}

-- a pending item stands behind the room for what is lifted, and has a key of its own
pub record IsPending (k : ℕ) (caps : List ℕ) (n : Numbers) (items : List Item) (pending : Item) : Type 0 where
  pub some : 1 ≤ pending.size
  pub high : pending.size ≤ 2 ^ 31
  pub class : pending.class ≡ class_of pending.size
  pub from : n.boundary ≤ pending.class
  pub place : pending.place ≡ n.wall + weight (λ it. not (stands_in_payload k caps it)) items
  pub other : (it : Item) → Contains items it → it.key ≢ pending.key

-- what is asked where a flush begins, with nothing pending or with a pending item
abbrev pub Begins : ℕ → List ℕ → Numbers → List Item → Option Item → Type 0
Begins k caps n items None =
    CanFlush k caps n.boundary items × (n ≡ numbers_of k caps n.boundary items 0)
Begins k caps n items (Some pending) =
    CanFlush k caps n.boundary items × (n ≡ numbers_of k caps n.boundary items pending.size)
    × IsPending k caps n items pending

-- the items with the pending one, and its size, or 0
abbrev pub with_pending : List Item → Option Item → List Item
with_pending items None = items
with_pending items (Some pending) = items ++ pending ∷ []

abbrev pub pending_size : Option Item → ℕ
pending_size None = 0
pending_size (Some pending) = pending.size
