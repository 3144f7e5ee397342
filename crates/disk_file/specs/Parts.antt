-- What one call of the system does to a file, as a part of a call of a disk. What is asked isn't counted.
use Rattle.std.specs.Prelude.{◌≡◌, ℕ, IsTrue}
use Rattle.byte_ranges.specs.Ranges.{SameOutside}
use Rattle.disk_face.specs.Counts.{counted}
use Rattle.disk_face.specs.Frames.{Asks, Stays}
use Rattle.disk_face.specs.Moments.{Elapses, Follows, NoMore, ResizedImage}
use Rattle.disk_face.specs.States.{State}

-- A part of a write of n bytes at a position: what a crash might have left it may leave still.
pub record WritesPart (at n : ℕ) (old new : State) : Type 0 where
  pub others : IsTrue old.tells → SameOutside at n old.file new.file
  pub images : Follows (SameOutside at n) old.may_leave new.may_leave
  pub grows : NoMore new.may_leave old.may_leave
  pub time : Elapses old new new.may_leave
  pub same_turn : new.turn ≡ old.turn
  pub stays : Stays old new
  pub asks : Asks 0 0 old new

-- a change of the length to n
pub record ResizesPart (n : ℕ) (old new : State) : Type 0 where
  pub images : Follows (ResizedImage n) old.may_leave new.may_leave
  pub time : Elapses old new new.may_leave
  pub same_turn : new.turn ≡ old.turn
  pub stays : Stays old new
  pub asks : Asks 0 0 old new

-- a sync, failed or not
pub record SyncsPart (old new : State) : Type 0 where
  pub same_file : IsTrue old.tells → new.file ≡ old.file
  pub images : NoMore old.may_leave new.may_leave
  pub time : Elapses old new old.may_leave
  pub same_turn : new.turn ≡ old.turn
  pub stays : Stays old new
  pub asks : Asks 0 0 old new

-- A call of a disk has ended: nothing is changed, and the next turn begins.
pub record EndsCall (old new : State) : Type 0 where
  pub same_file : IsTrue old.tells → new.file ≡ old.file
  pub images : NoMore old.may_leave new.may_leave
  pub grows : NoMore new.may_leave old.may_leave
  pub time : Elapses old new new.may_leave
  pub one_turn : new.turn ≡ counted old.turn 1
  pub stays : Stays old new
  pub asks : Asks 0 0 old new
