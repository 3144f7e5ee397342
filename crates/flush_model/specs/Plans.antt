-- The moves of a flush. Each phase's next move is told from where the objects of the suffix stand now.
use Rattle.std.specs.Prelude.{◌≡◌, ◌≢◌, ◌⊎◌, ℕ, ◌+◌, ◌-◌, ◌/◌, ◌^◌, ◌<◌, ◌≤◌, ◌==◌, nat_le, nat_lt, max, min, not, ◌&&◌, Bool, cond, if◌then◌else◌, List, [], ◌∷◌, slice_index, map, filter, fold, sum_by, Contains, IsTrue}
use Rattle.byte_ranges.specs.Lists.{counting_from}
use Rattle.size_class.specs.Classes.{width, class_of}
use Rattle.segment_layout.specs.Shapes.{buffer_of, end_of, start_of, buffer_start}
use Rattle.flush_model.specs.declared.item.Item.{Item}
use Rattle.flush_model.specs.declared.item.Move.{Move}
use Rattle.flush_model.specs.declared.item.Numbers.{Numbers}

-- the sizes of items together
abbrev pub total : List Item → ℕ
total items = sum_by (λ it. it.size) items

-- the bytes of the items that pass a test, and of those of a class
abbrev pub weight : (Item → Bool) → List Item → ℕ
weight q items = sum_by (λ it. cond (q it) it.size 0) items

abbrev pub in_class : ℕ → Item → ℕ
in_class c it = cond (it.class == c) it.size 0

abbrev pub class_total : List Item → ℕ → ℕ
class_total items c = total (filter (λ it. it.class == c) items)

-- the bytes of the classes from b up to c, each with its buffer, where each class has so many bytes
abbrev pub segments_length : ℕ → (ℕ → ℕ) → ℕ → ℕ → ℕ
segments_length k volume b c = sum_by (λ d. volume d + buffer_of k (volume d)) (counting_from b (c - b))

-- the same of the classes of items
abbrev pub laid_length : ℕ → List Item → ℕ → ℕ → ℕ
laid_length k items b c = segments_length k (class_total items) b c

abbrev pub largest_of : List Item → ℕ → ℕ
largest_of items pending = fold (λ n it. max n it.size) pending items

abbrev pub stands_in_payload : ℕ → List ℕ → Item → Bool
stands_in_payload k caps it = nat_le (start_of k caps it.class) it.place
    && nat_le (it.place + it.size) (buffer_start k caps it.class)

-- an item stands in the buffer of a class, its own or a greater one
pub record IsInBuffer (k : ℕ) (caps : List ℕ) (j : ℕ) (it : Item) : Type 0 where
  pub within : j < width
  pub class : it.class ≤ j
  pub low : buffer_start k caps j ≤ it.place
  pub high : it.place + it.size ≤ buffer_start k caps j + buffer_of k (slice_index caps j)

-- an object of so many bytes, wherever it stands
abbrev pub object_of : ℕ → Item
object_of size = record { key = 0; class = class_of size; place = 0; size = size }

-- The numbers of a flush from class b on, of its items and of a pending object of so many bytes; with none
-- pending the size is 0.
abbrev pub numbers_of : ℕ → List ℕ → ℕ → List Item → ℕ → Numbers
numbers_of k caps b items pending =
    let start = start_of k caps b in
    let end = start + laid_length k (object_of pending ∷ items) b width in
    let in_payload = total (filter (stands_in_payload k caps) items) in
    let slack = largest_of items pending + (in_payload / k + 1) in
    let wall = max (end_of k caps) end + slack in
    record {
      boundary = b;
      start = start;
      wall = wall;
      slack = slack;
      reach = wall + (total items - in_payload) + pending;
      end = end;
    }

abbrev pub moved_item : ℕ → ℕ → Item → Item
moved_item key place it = if it.key == key then record it { place = place } else it

abbrev pub relocated : ℕ → ℕ → List Item → List Item
relocated key place items = map (moved_item key place) items

-- two items share no byte and have two keys
pub record ItemsApart (a b : Item) : Type 0 where
  pub keys : a.key ≢ b.key
  pub bytes : (a.place + a.size ≤ b.place) ⊎ (b.place + b.size ≤ a.place)

-- the move takes one of the items from where it stands
abbrev pub mover : Move → Item
mover mv = record { key = mv.key; class = mv.class; place = mv.from; size = mv.size }

abbrev pub is_below_wall : Numbers → Item → Bool
is_below_wall n it = nat_lt it.place n.wall

-- the sizes of the items below the wall that stand at greater places
abbrev pub sizes_over : Numbers → List Item → ℕ → ℕ
sizes_over n items place = total (filter (λ it. is_below_wall n it && nat_lt place it.place) items)

-- an item below the wall stands where packing puts it
abbrev pub IsPacked : Numbers → List Item → Item → Type 0
IsPacked n items it = it.place + it.size + sizes_over n items it.place ≡ n.wall

abbrev pub is_packed : Numbers → List Item → Item → Bool
is_packed n items it = it.place + it.size + sizes_over n items it.place == n.wall

-- the sizes of the items of a class that stand before a place
abbrev pub sizes_before : List Item → ℕ → ℕ → ℕ
sizes_before items c place = total (filter (λ it. (it.class == c) && nat_lt it.place place) items)

-- where laying puts an item of a class that stands at a place
abbrev pub final_place : ℕ → Numbers → List Item → ℕ → ℕ → ℕ
final_place k n items c place = n.start + laid_length k items n.boundary c + sizes_before items c place

abbrev pub IsLaid : ℕ → Numbers → List Item → Item → Type 0
IsLaid k n items it = it.place ≡ final_place k n items it.class it.place

abbrev pub is_laid : ℕ → Numbers → List Item → Item → Bool
is_laid k n items it = it.place == final_place k n items it.class it.place

-- the order in which objects are laid
abbrev pub IsBefore : Item → Item → Type 0
IsBefore a b = (a.class < b.class) ⊎ ((a.class ≡ b.class) × (a.place < b.place))

-- the least place of one of these items that is below the wall and not laid, or the wall
abbrev pub least_unlaid : ℕ → Numbers → List Item → List Item → ℕ
least_unlaid k n items [] = n.wall
least_unlaid k n items (it ∷ rest) = if is_below_wall n it && not (is_laid k n items it)
    then min it.place (least_unlaid k n items rest) else least_unlaid k n items rest

abbrev pub first_unlaid : ℕ → Numbers → List Item → ℕ
first_unlaid k n items = least_unlaid k n items items

-- an item of a buffer that isn't lifted yet, and the bytes of these
abbrev pub is_unlifted : ℕ → List ℕ → Numbers → Item → Bool
is_unlifted k caps n it = is_below_wall n it && not (stands_in_payload k caps it)

abbrev pub unlifted_bytes : ℕ → List ℕ → Numbers → List Item → ℕ
unlifted_bytes k caps n items = total (filter (is_unlifted k caps n) items)

-- an item that was lifted stands from the wall on, before the pending one
abbrev pub is_lifted : Numbers → ℕ → Item → Bool
is_lifted n pending it = nat_le n.wall it.place && nat_lt it.place (n.reach - pending)

abbrev pub lifted_bytes : Numbers → ℕ → List Item → ℕ
lifted_bytes n pending items = total (filter (is_lifted n pending) items)

-- the next object to lift: of those in buffers the one at the least place, behind those that were lifted
pub record IsNextLift (k : ℕ) (caps : List ℕ) (n : Numbers) (pending : ℕ) (items : List Item) (mv : Move) :
    Type 0 where
  pub item : Contains items (mover mv)
  pub below : mv.from < n.wall
  pub buffered : IsTrue (not (stands_in_payload k caps (mover mv)))
  pub first : (it : Item) → Contains items it → it.place < mv.from → IsTrue (stands_in_payload k caps it)
  pub target : mv.to ≡ n.wall + lifted_bytes n pending items

-- the next object to pack: the one at the greatest place that is not packed
pub record IsNextPack (n : Numbers) (items : List Item) (mv : Move) : Type 0 where
  pub item : Contains items (mover mv)
  pub below : mv.from < n.wall
  pub moves : mv.to ≢ mv.from
  pub target : mv.to + mv.size + sizes_over n items mv.from ≡ n.wall
  pub packed : (it : Item) → Contains items it → mv.from < it.place → it.place < n.wall → IsPacked n items it

-- the next object to lay: the first by class and place that is not laid
pub record IsNextLay (k : ℕ) (n : Numbers) (items : List Item) (mv : Move) : Type 0 where
  pub item : Contains items (mover mv)
  pub moves : mv.to ≢ mv.from
  pub target : mv.to ≡ final_place k n items mv.class mv.from
  pub laid : (it : Item) → Contains items it → IsBefore it (mover mv) → IsLaid k n items it

-- each item ends at a place, or before, or begins at another, or behind
abbrev pub AreAside : List Item → ℕ → ℕ → Type 0
AreAside items low high = (it : Item) → Contains items it → (it.place + it.size ≤ low) ⊎ (high ≤ it.place)

-- each item is of a class below C
abbrev pub AreBelow : ℕ → List Item → Type 0
AreBelow C items = (it : Item) → Contains items it → it.class < C

-- each place, and the reach, is a number of 64 bits
abbrev pub AreSmall : Numbers → List Item → Type 0
AreSmall n items = (n.reach < 2 ^ 64) × ((it : Item) → Contains items it → it.place < 2 ^ 64)

-- what the disk needs of a move: its target shares no byte with any item, its own source among them,
-- and lies from the start of the suffix to the reach
pub record IsSafe (n : Numbers) (items : List Item) (mv : Move) : Type 0 where
  pub apart : (it : Item) → Contains items it → (mv.to + mv.size ≤ it.place) ⊎ (it.place + it.size ≤ mv.to)
  pub low : n.start ≤ mv.to
  pub high : mv.to + mv.size ≤ n.reach

-- there is room for the new layout below the wall, and for the slack
abbrev pub HasRoom : ℕ → Numbers → List Item → Type 0
HasRoom k n items = n.start + laid_length k items n.boundary width + n.slack ≤ n.wall

-- What a flush can go on from: there is room below the wall, and the slack is at least each item's size; each
-- item lies on one side of the wall; below it the classes don't fall as the places rise, and each item is
-- packed or has a gap of at least the slack over it.
pub record ItemsCanResume (k : ℕ) (n : Numbers) (items : List Item) : Type 0 where
  pub wall : HasRoom k n items
  pub slack : (it : Item) → Contains items it → it.size ≤ n.slack
  pub side : (it : Item) → Contains items it
      → (n.wall ≤ it.place) ⊎ ((n.start ≤ it.place) × (it.place + it.size ≤ n.wall))
  pub order : (it other : Item) → Contains items it → Contains items other → it.place < n.wall
      → other.place < it.place → other.class ≤ it.class
  pub gap : (it : Item) → Contains items it → it.place < n.wall
      → IsPacked n items it ⊎ (it.place + it.size + sizes_over n items it.place + n.slack ≤ n.wall)
