-- What a change does to a book: its numbers, and which names stand in buffers after it.
use Rattle.std.specs.Prelude.{◌≡◌, ℕ, nat_lt, Bool, false, ◌&&◌, ◌||◌, if◌then◌else◌, List, [], fold, Option, Some, None}
use Rattle.size_class.specs.Classes.{class_of}
use Rattle.map_model.specs.Maps.{Map}
use Rattle.map_model.specs.Requests.{Change}
use Rattle.segment_layout.specs.Books.{Book, Charged, charge_all, charge_change, charge_one, next_book, reshaped, some_size, volumes_of_sizes}
use Rattle.plain_layout.specs.declared.change.Next.{Next}

-- the grid after one item is charged
abbrev pub after_one : ℕ → List ℕ → List (List ℕ) → ℕ → List (List ℕ)
after_one k caps grid size = (charge_one k caps (record { grid = grid; tried = [] }) size).grid

-- the last of the items that were charged found room
abbrev pub finds_last : Charged → Bool
finds_last charged = fold (λ found item. item.1) false charged.tried

-- the item of an object's size, if there is an object and it has bytes
abbrev pub sized : Option ℕ → List ℕ
sized None = []
sized (Some size) = some_size size

-- an object has bytes, and its item, which is the last, found room
abbrev pub enters : Bool → Option ℕ → Bool
enters found None = false
enters found (Some size) = nat_lt 0 size && found

-- an object is of a class below b
abbrev pub is_of_lower : ℕ → Option ℕ → Bool
is_of_lower b None = false
is_of_lower b (Some size) = nat_lt (class_of size) b

-- whether a name stands in a buffer after a change: by whether it did before, whether the change is of this
-- name, and the size of its object after the change, if there is one
abbrev pub stays_buffered : Next → Bool → Bool → Option ℕ → Bool
stays_buffered next was is_changed size = (if is_changed then enters next.found_last size else was)
    && (next.quiet || is_of_lower next.boundary size)

-- The numbers are what charging these items does to those of before, where the objects have these sizes after
-- it.
pub record IsReshaped (k : ℕ) (caps : List ℕ) (grid : List (List ℕ)) (items after : List ℕ) (next : Next)
    : Type 0 where
  pub quiet : next.quiet ≡ (reshaped k caps (charge_all k caps grid items) (volumes_of_sizes after)).quiet
  pub boundary : next.boundary
      ≡ (reshaped k caps (charge_all k caps grid items) (volumes_of_sizes after)).boundary
  pub capacities : next.book.caps
      ≡ (reshaped k caps (charge_all k caps grid items) (volumes_of_sizes after)).caps
  pub used : next.book.used ≡ (reshaped k caps (charge_all k caps grid items) (volumes_of_sizes after)).grid
  pub divisor : next.book.k ≡ k
  pub last : next.found_last ≡ finds_last (charge_all k caps grid items)

-- The numbers are those of what a change does to a book.
pub record IsNext (next : Next) (k : ℕ) (m : Map) (book : Book) (c : Change) : Type 0 where
  pub quiet : next.quiet ≡ (next_book k m book c).quiet
  pub boundary : next.boundary ≡ (next_book k m book c).boundary
  pub found_last : next.found_last ≡ finds_last (charge_change k m book c)
  pub divisor : next.book.k ≡ k
  pub caps : next.book.caps ≡ (next_book k m book c).book.caps
  pub grid : next.book.used ≡ (next_book k m book c).book.grid
