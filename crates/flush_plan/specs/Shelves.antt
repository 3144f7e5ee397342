-- Objects on a shelf, by rising place, and the items of a flush among them.
use Rattle.std.specs.Prelude.{◌≡◌, ◌≢◌, ℕ, ◌+◌, ◌<◌, ◌≤◌, nat_le, List, length, filter, slice_get, Some, Contains, IsPermutation}
use Rattle.flush_model.specs.declared.item.Item.{Item}
use Rattle.flush_model.specs.declared.item.Numbers.{Numbers}
use Rattle.flush_model.specs.Phases.{PlanState, phase_of}

-- Each object has a byte at least and a key of its own, and begins where the one before it ends, or behind.
pub record IsShelf (xs : List Item) : Type 0 where
  pub some : (it : Item) → Contains xs it → 1 ≤ it.size
  pub keys : (i j : ℕ) (a b : Item) → i < j → slice_get xs i ≡ Some a → slice_get xs j ≡ Some b
      → a.key ≢ b.key
  pub rising : (i j : ℕ) (a b : Item) → i < j → slice_get xs i ≡ Some a → slice_get xs j ≡ Some b
      → a.place + a.size ≤ b.place

-- so many objects of a shelf stand before a place
pub record IsRank (xs : List Item) (place rank : ℕ) : Type 0 where
  pub within : rank ≤ length xs
  pub before : (i : ℕ) (it : Item) → i < rank → slice_get xs i ≡ Some it → it.place < place
  pub from : (i : ℕ) (it : Item) → rank ≤ i → slice_get xs i ≡ Some it → place ≤ it.place

-- the objects that stand at a place or behind it
abbrev pub from_place : ℕ → List Item → List Item
from_place place xs = filter (λ it. nat_le place it.place) xs

-- the items of a flush, in any order, are the objects of a shelf from the start of the suffix on
pub record IsOnShelf (start : ℕ) (items shelf : List Item) : Type 0 where
  pub rises : IsShelf shelf
  pub same : IsPermutation items (from_place start shelf)

-- the last of the items that begin before a place
pub record IsLastBefore (items : List Item) (place : ℕ) (m : Item) : Type 0 where
  pub has : Contains items m
  pub before : m.place < place
  pub last : (it : Item) → Contains items it → it.place < place → it.place ≤ m.place

-- the first of the items of a class that stand at a place or behind it
pub record IsFirstOf (items : List Item) (class place : ℕ) (m : Item) : Type 0 where
  pub has : Contains items m
  pub same : m.class ≡ class
  pub from : place ≤ m.place
  pub first : (it : Item) → Contains items it → it.class ≡ class → place ≤ it.place → m.place ≤ it.place

-- A phase without its items: the layout that the flush began with, its numbers, and the size of the pending
-- item.
pub record PlanFrame : Type 0 where
  pub k : ℕ
  pub caps : List ℕ
  pub numbers : Numbers
  pub pending : ℕ

abbrev pub course_of : ℕ → List ℕ → Numbers → ℕ → PlanFrame
course_of k caps numbers pending = record { k = k; caps = caps; numbers = numbers; pending = pending }

-- the phase over its items, which are kept in no list
abbrev pub phase_on : PlanFrame → List Item → PlanState
phase_on c items = phase_of c.k c.caps c.numbers c.pending items
