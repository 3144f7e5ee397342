-- What a call does to a disk beside its answer, and how the frames of two calls join.
use Rattle.std.specs.Prelude.{◌≡◌, ℕ, ◌+◌, ◌≤◌, max, IsTrue, OnOk, Result}
use Rattle.byte_ranges.specs.Ranges.{SameOutside}
use Rattle.disk_face.specs.Counts.{HasCause, counted}
use Rattle.disk_face.specs.States.{State}
use Rattle.disk_face.specs.Moments.{Elapses, Follows, Leaves, NoMore, ResizedImage}

-- The file stays open, and what is told stays told.
pub record Stays (old new : State) : Type 0 where
  pub ready : IsTrue new.is_ready
  pub told : new.tells ≡ old.tells
  pub images_told : new.tells_images ≡ old.tells_images
  pub same_mount : new.last_mount ≡ old.last_mount

-- how many bytes spell a changing call, beside those that it writes
abbrev pub call_weight : ℕ
call_weight = 17

-- Calls that so many bytes spell at most, and that were to set no greater length than this one.
pub record Asks (n most : ℕ) (old new : State) : Type 0 where
  pub weight : new.weight ≤ old.weight + n
  pub longest : new.longest ≤ max old.longest most

-- after a call that mounts a file
pub record AfterMount (old new : State) : Type 0 where
  pub same_file : IsTrue old.tells → new.file ≡ old.file
  pub images : NoMore old.may_leave new.may_leave
  pub time : Elapses old new new.may_leave
  pub same_turn : new.turn ≡ old.turn
  pub told : new.tells ≡ old.tells
  pub images_told : new.tells_images ≡ old.tells_images
  pub asks : Asks 0 0 old new

-- after a call that changes nothing
pub record AfterRead (old new : State) : Type 0 where
  pub same_file : IsTrue old.tells → new.file ≡ old.file
  pub images : NoMore old.may_leave new.may_leave
  pub time : Elapses old new new.may_leave
  pub same_turn : new.turn ≡ old.turn
  pub stays : Stays old new
  pub asks : Asks 0 0 old new

-- after a write of n bytes at a position, failed or not
pub record AfterWrite (at n : ℕ) (old new : State) : Type 0 where
  pub others : IsTrue old.tells → SameOutside at n old.file new.file
  pub images : Follows (SameOutside at n) old.may_leave new.may_leave
  pub time : Elapses old new new.may_leave
  pub one_turn : new.turn ≡ counted old.turn 1
  pub stays : Stays old new
  pub asks : Asks (call_weight + n) 0 old new

-- after a change of the length to n, failed or not
pub record AfterLength (n : ℕ) (old new : State) : Type 0 where
  pub images : Follows (ResizedImage n) old.may_leave new.may_leave
  pub time : Elapses old new new.may_leave
  pub one_turn : new.turn ≡ counted old.turn 1
  pub stays : Stays old new
  pub asks : Asks call_weight n old new

-- after a sync, failed or not
pub record AfterSync (old new : State) : Type 0 where
  pub same_file : IsTrue old.tells → new.file ≡ old.file
  pub images : NoMore old.may_leave new.may_leave
  pub time : Elapses old new old.may_leave
  pub one_turn : new.turn ≡ counted old.turn 1
  pub stays : Stays old new
  pub asks : Asks call_weight 0 old new

-- Nothing was changed: the content and the turn stay, and a crash leaves only what it might have left before.
pub record Unchanged (old new : State) : Type 0 where
  pub same_file : IsTrue old.tells → new.file ≡ old.file
  pub images : NoMore old.may_leave new.may_leave
  pub since : Leaves old new old.may_leave
  pub same_turn : new.turn ≡ old.turn
  pub later : old.faults ≤ new.faults
  pub stays : Stays old new
  pub asks : Asks 0 0 old new

-- The same of a disk that may have no file open.
pub record Untouched (old new : State) : Type 0 where
  pub same_file : IsTrue old.tells → new.file ≡ old.file
  pub images : NoMore old.may_leave new.may_leave
  pub since : Leaves old new old.may_leave
  pub same_turn : new.turn ≡ old.turn
  pub later : old.faults ≤ new.faults
  pub told : new.tells ≡ old.tells
  pub images_told : new.tells_images ≡ old.tells_images

-- So many changing calls, or fewer where one failed, and an error has its cause.
pub record Calls {T E : Type 0} (n : ℕ) (old new : State) (result : Result T E) : Type 0 where
  pub all : OnOk result (new.turn ≡ counted old.turn n)
  pub most : new.turn ≤ counted old.turn n
  pub cause : HasCause old.faults new.faults result
