-- Calls that write within a range of a file alone, and how one goes on after another.
use Rattle.std.specs.Prelude.{ℕ, ◌≤◌, List, IsTrue}
use Rattle.byte_ranges.specs.Ranges.{SameOutside}
use Rattle.disk_face.specs.States.{State}
use Rattle.disk_face.specs.Moments.{Follows, Leaves}
use Rattle.disk_face.specs.Frames.{Stays}

-- The disk stays ready, its count of calls doesn't fall, and what it tells stays told.
pub record KeepsDisk (old new : State) : Type 0 where
  pub no_turn_back : old.turn ≤ new.turn
  pub stays : Stays old new

-- an image of before, but for n bytes at a position
abbrev pub IsRewritten : (List ℕ → Type 0) → ℕ → ℕ → List ℕ → Type 0
IsRewritten may_leave at n image = (before : List ℕ) × may_leave before × SameOutside at n before image

-- The content and the images are those of before but for n bytes at a position, and so was each image
-- that was left meanwhile. The disk stays ready, and what it tells stays told.
pub record WritesWithin (at n : ℕ) (old new : State) : Type 0 where
  pub others : IsTrue old.tells → SameOutside at n old.file new.file
  pub images : Follows (SameOutside at n) old.may_leave new.may_leave
  pub since : Leaves old new (IsRewritten old.may_leave at n)
  pub stays : Stays old new
