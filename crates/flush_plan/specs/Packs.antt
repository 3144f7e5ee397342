-- How far Pack has come: what stands below the wall from a place on is packed.
use Rattle.std.specs.Prelude.{◌≡◌, ◌≢◌, ℕ, ◌+◌, ◌<◌, ◌≤◌, nat_le, ◌&&◌, Bool, List, Contains, filter}
use Rattle.size_class.specs.Classes.{width}
use Rattle.segment_layout.specs.Shapes.{start_of}
use Rattle.flush_model.specs.declared.item.Item.{Item}
use Rattle.flush_model.specs.declared.item.Numbers.{Numbers}
use Rattle.flush_model.specs.Plans.{AreBelow, AreSmall, is_below_wall, IsPacked, ItemsCanResume, laid_length, total}
use Rattle.flush_model.specs.Phases.{AreObjects, IsPacking}
use Rattle.flush_plan.specs.Shelves.{PlanFrame, IsOnShelf, phase_on}

-- the value of Pack: the place from which all is packed
pub record Pack : Type 0 where
  pub course : PlanFrame
  pub top : ℕ

-- an item below the wall stands at a place or behind it
abbrev pub is_from : Numbers → ℕ → Item → Bool
is_from n place it = is_below_wall n it && nat_le place it.place

-- the items below the wall from a place on are packed, and fill the range to the wall
pub record IsPackedFrom (n : Numbers) (items : List Item) (top : ℕ) : Type 0 where
  pub high : top ≤ n.wall
  pub packed : (it : Item) → Contains items it → top ≤ it.place → it.place < n.wall → IsPacked n items it
  pub row : top + total (filter (is_from n top) items) ≡ n.wall

-- What Pack keeps of its items: those below the wall from the top on are packed, and what stands before the
-- top doesn't end there.
pub record KeepsPacking (C : ℕ) (v : Pack) (items : List Item) : Type 0 where
  pub fits : C ≤ width
  pub boundary : v.course.numbers.boundary ≤ C
  pub divisor : 2 ≤ v.course.k
  pub packing : IsPacking (phase_on v.course items)
  pub classes : AreBelow C items
  pub small : AreSmall v.course.numbers items
  pub from_top : IsPackedFrom v.course.numbers items v.top
  pub loose : (it : Item) → Contains items it → it.place < v.top → it.place + it.size ≢ v.top

-- Pack goes on over these items, which stand on this shelf.
pub record Packs (C : ℕ) (v : Pack) (items shelf : List Item) : Type 0 where
  pub keeps : KeepsPacking C v items
  pub on : IsOnShelf v.course.numbers.start items shelf

-- these items are those of a flush that was interrupted, and Pack can go on with them
pub record CanGoOn (C k : ℕ) (caps : List ℕ) (n : Numbers) (items shelf : List Item) : Type 0 where
  pub objects : AreObjects n.boundary items
  pub resumes : ItemsCanResume k n items
  pub start : n.start ≡ start_of k caps n.boundary
  pub end : n.end ≡ n.start + laid_length k items n.boundary width
  pub reaches : n.wall ≤ n.reach
  pub classes : AreBelow C items
  pub small : AreSmall n items
  pub on : IsOnShelf n.start items shelf
