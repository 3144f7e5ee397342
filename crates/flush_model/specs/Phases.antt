-- The phases of a flush: what each holds, and what is kept of its items.
use Rattle.std.specs.Prelude.{◌≡◌, ◌⊎◌, ℕ, ◌+◌, ◌-◌, ◌/◌, ◌<◌, ◌≤◌, ◌==◌, not, ◌&&◌, Bool, if◌then◌else◌, max, fold, List, filter, length, slice_get, Some, Contains, IsTrue}
use Rattle.size_class.specs.Classes.{class_of, width}
use Rattle.segment_layout.specs.Shapes.{end_of, start_of}
use Rattle.flush_model.specs.declared.item.Item.{Item}
use Rattle.flush_model.specs.declared.item.Move.{Move}
use Rattle.flush_model.specs.declared.item.Numbers.{Numbers}
use Rattle.flush_model.specs.Plans.{HasRoom, is_below_wall, is_laid, is_lifted, is_packed, is_unlifted, IsBefore, IsInBuffer, ItemsApart, ItemsCanResume, IsLaid, IsPacked, laid_length, largest_of, lifted_bytes, relocated, stands_in_payload, total, unlifted_bytes}

-- The value of a phase: the layout that the flush began with, its numbers, the size of the pending item, and
-- its items in any order.
pub record PlanState : Type 0 where
  pub k : ℕ
  pub caps : List ℕ
  pub numbers : Numbers
  pub pending : ℕ
  pub items : List Item

abbrev pub phase_of : ℕ → List ℕ → Numbers → ℕ → List Item → PlanState
phase_of k caps numbers pending items =
    record { k = k; caps = caps; numbers = numbers; pending = pending; items = items }

-- the phase once a move is made
abbrev pub moved_by : Move → PlanState → PlanState
moved_by mv p = record p { items = relocated mv.key mv.to p.items }

-- the items of a flush from class b on, before it: no two share a byte or a key, each has the class of its
-- size, from b on, and stands in the payload segment of its class or in a buffer from its class on
pub record CanFlush (k : ℕ) (caps : List ℕ) (b : ℕ) (items : List Item) : Type 0 where
  pub classes : length caps ≡ width
  pub apart : (i j : ℕ) (a b : Item) → i < j → slice_get items i ≡ Some a → slice_get items j ≡ Some b
      → ItemsApart a b
  pub some : (it : Item) → Contains items it → 1 ≤ it.size
  pub class : (it : Item) → Contains items it → it.class ≡ class_of it.size
  pub from : (it : Item) → Contains items it → b ≤ it.class
  pub stands : (it : Item) → Contains items it
      → IsTrue (stands_in_payload k caps it) ⊎ ((j : ℕ) × IsInBuffer k caps j it)

-- objects from class b on, wherever they stand: no two share a byte or a key, and each has the class of its
-- size
pub record AreObjects (b : ℕ) (items : List Item) : Type 0 where
  pub apart : (i j : ℕ) (a b : Item) → i < j → slice_get items i ≡ Some a → slice_get items j ≡ Some b
      → ItemsApart a b
  pub some : (it : Item) → Contains items it → 1 ≤ it.size
  pub class : (it : Item) → Contains items it → it.class ≡ class_of it.size
  pub from : (it : Item) → Contains items it → b ≤ it.class

-- what is kept of the items in each phase: no two share a byte or a key, each has the class of its size, from
-- the boundary on, and stands in the suffix
pub record AreItems (n : Numbers) (items : List Item) : Type 0 where
  pub apart : (i j : ℕ) (a b : Item) → i < j → slice_get items i ≡ Some a → slice_get items j ≡ Some b
      → ItemsApart a b
  pub some : (it : Item) → Contains items it → 1 ≤ it.size
  pub class : (it : Item) → Contains items it → it.class ≡ class_of it.size
  pub from : (it : Item) → Contains items it → n.boundary ≤ it.class
  pub start : (it : Item) → Contains items it → n.start ≤ it.place

-- the suffix begins where the layout says, and the end is that of the new layout
pub record SuitsLayout (k : ℕ) (caps : List ℕ) (n : Numbers) (items : List Item) : Type 0 where
  pub boundary : n.boundary ≤ width
  pub start : n.start ≡ start_of k caps n.boundary
  pub end : n.end ≡ n.start + laid_length k items n.boundary width

-- what isn't lifted lies below the old end; what was lifted stands in a row from the wall on, and behind it
-- there is room for what is to be lifted and for the pending item
pub record AreLifting (k : ℕ) (caps : List ℕ) (n : Numbers) (pending : ℕ) (items : List Item) : Type 0 where
  pub waits : (it : Item) → Contains items it → it.place < n.wall → it.place + it.size ≤ end_of k caps
  pub lifted : (it : Item) → Contains items it → n.wall ≤ it.place
      → (it.place + it.size ≤ n.wall + lifted_bytes n pending items) ⊎ (n.reach - pending ≤ it.place)
  pub reaches : n.wall + lifted_bytes n pending items + unlifted_bytes k caps n items + pending ≡ n.reach
  pub old_end : end_of k caps + n.slack ≤ n.wall
  pub wall : HasRoom k n items
  pub slack : (it : Item) → Contains items it → it.size ≤ n.slack

-- the largest size, and the bytes below the wall that stand in payload segments
abbrev pub largest_item : PlanState → ℕ
largest_item p = largest_of p.items 0

abbrev pub stands_below : PlanState → Item → Bool
stands_below p it = is_below_wall p.numbers it && stands_in_payload p.k p.caps it

abbrev pub payload_bytes : PlanState → ℕ
payload_bytes p = total (filter (stands_below p) p.items)

-- the slack has room for the largest item, and for more than a k-th of so many bytes
abbrev pub PaysFor : PlanState → ℕ → Type 0
PaysFor p bytes = largest_item p + (bytes / p.k + 1) ≤ p.numbers.slack

pub record IsLifting (p : PlanState) : Type 0 where
  pub items : AreItems p.numbers p.items
  pub layout : SuitsLayout p.k p.caps p.numbers p.items
  pub lifting : AreLifting p.k p.caps p.numbers p.pending p.items
  pub pays : PaysFor p (payload_bytes p)
  pub classes : length p.caps ≡ width

-- a moving table of these items may be saved and resumed
pub record IsPacking (p : PlanState) : Type 0 where
  pub items : AreItems p.numbers p.items
  pub layout : SuitsLayout p.k p.caps p.numbers p.items
  pub resumes : ItemsCanResume p.k p.numbers p.items
  pub reaches : p.numbers.wall ≤ p.numbers.reach

-- what lies below the wall and isn't laid is packed against it, and the items that are laid come first by
-- class and place
pub record AreLaying (k : ℕ) (n : Numbers) (items : List Item) : Type 0 where
  pub packed : (it : Item) → Contains items it → it.place < n.wall → IsLaid k n items it ⊎ IsPacked n items it
  pub front : (a b : Item) → Contains items a → Contains items b → IsBefore a b → IsLaid k n items b
      → IsLaid k n items a

pub record IsLaying (p : PlanState) : Type 0 where
  pub packing : IsPacking p
  pub laying : AreLaying p.k p.numbers p.items

-- no next move
abbrev pub IsLifted : PlanState → Type 0
IsLifted p = (it : Item) → Contains p.items it → it.place < p.numbers.wall
    → IsTrue (stands_in_payload p.k p.caps it)

abbrev pub IsPackedWhole : PlanState → Type 0
IsPackedWhole p = (it : Item) → Contains p.items it → it.place < p.numbers.wall
    → IsPacked p.numbers p.items it

abbrev pub IsLaidWhole : PlanState → Type 0
IsLaidWhole p = (it : Item) → Contains p.items it → IsLaid p.k p.numbers p.items it

-- an item that is still to be packed, to be laid
abbrev pub is_unpacked : Numbers → List Item → Item → Bool
is_unpacked n items it = is_below_wall n it && not (is_packed n items it)

abbrev pub is_unlaid : ℕ → Numbers → List Item → Item → Bool
is_unlaid k n items it = not (is_laid k n items it)

-- how many items still wait: not lifted, not packed, not laid
abbrev pub to_lift : PlanState → ℕ
to_lift p = length (filter (is_unlifted p.k p.caps p.numbers) p.items)

abbrev pub to_pack : PlanState → ℕ
to_pack p = length (filter (is_unpacked p.numbers p.items) p.items)

abbrev pub to_lay : PlanState → ℕ
to_lay p = length (filter (is_unlaid p.k p.numbers p.items) p.items)

-- the bytes below the wall, those that are packed against it, and those that aren't laid yet
abbrev pub bytes_below : PlanState → ℕ
bytes_below p = total (filter (is_below_wall p.numbers) p.items)

abbrev pub is_packed_below : PlanState → Item → Bool
is_packed_below p it = is_below_wall p.numbers it && is_packed p.numbers p.items it

abbrev pub packed_bytes : PlanState → ℕ
packed_bytes p = total (filter (is_packed_below p) p.items)

abbrev pub is_waiting_below : PlanState → Item → Bool
is_waiting_below p it = is_below_wall p.numbers it && not (is_laid p.k p.numbers p.items it)

abbrev pub waiting_bytes : PlanState → ℕ
waiting_bytes p = total (filter (is_waiting_below p) p.items)

-- where the last of the items that are laid ends
abbrev pub laid_end : PlanState → ℕ
laid_end p = fold (λ end it. if is_laid p.k p.numbers p.items it then max end (it.place + it.size) else end)
    0 p.items

-- the bytes of a class that were lifted, that are packed, that are laid
abbrev pub lifted_in : PlanState → ℕ → ℕ
lifted_in p c = total (filter (λ it. (it.class == c) && is_lifted p.numbers p.pending it) p.items)

abbrev pub packed_in : PlanState → ℕ → ℕ
packed_in p c = total (filter (λ it. (it.class == c) && is_packed_below p it) p.items)

abbrev pub laid_in : PlanState → ℕ → ℕ
laid_in p c = total (filter (λ it. (it.class == c) && is_laid p.k p.numbers p.items it) p.items)
