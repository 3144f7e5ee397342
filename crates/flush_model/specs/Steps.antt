-- What each move of Lift, Pack and Lay is, and what it leaves.
use Rattle.std.specs.Prelude.{◌≡◌, ℕ, ◌+◌, ◌≤◌, ◌==◌, cond, Contains}
use Rattle.size_class.specs.Classes.{class_of}
use Rattle.segment_layout.specs.Shapes.{end_of}
use Rattle.flush_model.specs.declared.item.Move.{Move}
use Rattle.flush_model.specs.Plans.{AreAside, first_unlaid, IsNextLay, IsNextLift, IsNextPack, IsSafe, mover}
use Rattle.flush_model.specs.Phases.{bytes_below, IsLaying, IsLifting, IsPacking, laid_end, laid_in, largest_item, lifted_in, moved_by, packed_bytes, packed_in, PlanState, to_lay, to_lift, to_pack, waiting_bytes}

-- the move takes one of the items, of at least 1 byte and of the class of its size, from the boundary on
pub record IsMover (p : PlanState) (mv : Move) : Type 0 where
  pub has : Contains p.items (mover mv)
  pub some : 1 ≤ mv.size
  pub class : mv.class ≡ class_of mv.size
  pub from : p.numbers.boundary ≤ mv.class
  pub start : p.numbers.start ≤ mv.from

-- the bytes of the mover's class grow by its size, and those of the other classes stay
abbrev pub GrowsBy : Move → (ℕ → ℕ) → (ℕ → ℕ) → Type 0
GrowsBy mv old new = (c : ℕ) → new c ≡ old c + cond (mv.class == c) mv.size 0

-- A move of Lift is the next one, safe, and goes past the old layout's end; one item fewer waits, and the
-- mover's bytes are lifted.
pub record IsLiftStep (p : PlanState) (mv : Move) : Type 0 where
  pub next : IsNextLift p.k p.caps p.numbers p.pending p.items mv
  pub item : IsMover p mv
  pub safe : IsSafe p.numbers p.items mv
  pub past : end_of p.k p.caps + p.numbers.slack ≤ mv.to
  pub fewer : to_lift (moved_by mv p) + 1 ≡ to_lift p
  pub progress : GrowsBy mv (lifted_in p) (lifted_in (moved_by mv p))
  pub after : IsLifting (moved_by mv p)

-- A move of Pack is the next one, safe, and goes up by the slack at least; each item ends where the mover
-- ended, or before, or begins where the target ends, or behind. The target ends where the bytes that are
-- packed begin, and joins them. A flush can be resumed before the move and after it.
pub record IsPackStep (p : PlanState) (mv : Move) : Type 0 where
  pub next : IsNextPack p.numbers p.items mv
  pub item : IsMover p mv
  pub safe : IsSafe p.numbers p.items mv
  pub far : mv.from + p.numbers.slack ≤ mv.to
  pub sides : AreAside p.items (mv.from + mv.size) (mv.to + mv.size)
  pub small : mv.size ≤ largest_item p
  pub largest : largest_item (moved_by mv p) ≡ largest_item p
  pub row : mv.to + mv.size + packed_bytes p ≡ p.numbers.wall
  pub grows : packed_bytes (moved_by mv p) ≡ packed_bytes p + mv.size
  pub few : packed_bytes p + mv.size ≤ bytes_below p
  pub below : bytes_below (moved_by mv p) ≡ bytes_below p
  pub fewer : to_pack (moved_by mv p) + 1 ≡ to_pack p
  pub progress : GrowsBy mv (packed_in p) (packed_in (moved_by mv p))
  pub lifted : (c : ℕ) → lifted_in (moved_by mv p) c ≡ lifted_in p c
  pub before : IsPacking p
  pub after : IsPacking (moved_by mv p)

-- A move of Lay is the next one, safe, and its target begins by the slack at least before the first item that
-- isn't laid; each item ends where the target begins, or before, or begins where that first one does, or
-- behind. From that first one on the bytes that wait fill the range to the wall, and never grow. The target
-- lies behind all that is laid. A flush can be resumed before the move and after it.
pub record IsLayStep (p : PlanState) (mv : Move) : Type 0 where
  pub next : IsNextLay p.k p.numbers p.items mv
  pub item : IsMover p mv
  pub safe : IsSafe p.numbers p.items mv
  pub far : mv.to + p.numbers.slack ≤ first_unlaid p.k p.numbers p.items
  pub sides : AreAside p.items mv.to (first_unlaid p.k p.numbers p.items)
  pub small : mv.size ≤ largest_item p
  pub largest : largest_item (moved_by mv p) ≡ largest_item p
  pub row : first_unlaid p.k p.numbers p.items + waiting_bytes p ≡ p.numbers.wall
  pub falls : waiting_bytes (moved_by mv p) ≤ waiting_bytes p
  pub behind : laid_end p ≤ mv.to
  pub laid : laid_end (moved_by mv p) ≡ mv.to + mv.size
  pub fewer : to_lay (moved_by mv p) + 1 ≡ to_lay p
  pub progress : GrowsBy mv (laid_in p) (laid_in (moved_by mv p))
  pub before : IsLaying p
  pub after : IsLaying (moved_by mv p)
