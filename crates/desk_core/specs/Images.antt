-- What a crash may leave of a desk.
use Rattle.std.specs.Prelude.{◌≡◌, ◌⊎◌, ℕ, Bool, true, false, List, [], ◌∷◌, Option, Some, None, Result, IsTrue}
use Rattle.disk_face.specs.Moments.{Leaves}
use Rattle.disk_face.specs.States as disk
use Rattle.size_class.specs.declared.TheConstants.{SIZE_MAX}
use Rattle.map_model.specs.Maps.{Map}
use Rattle.segment_layout.specs.Books.{Book}
use Rattle.table_rules.specs.Opening.{Opens}
use Rattle.store_model.specs.Connection.{FlushInHand, RestsOnTable, StoreValue, base_of}
use Rattle.store_model.specs.Halves.{HalfAgrees, Origin}
use Rattle.store_model.specs.States.{State}
use Rattle.ask_text.specs.declared.ends.End.{End}
use Rattle.ask_session.specs.Serving.{acknowledges, is_disk_fault}
use Rattle.desk_model.specs.Answers as answer
use Rattle.desk_model.specs.Answers.{Answer}
use Rattle.desk_model.specs.Desks.{Desk, Flush}
use Rattle.desk_core.specs.Shows.{ShowsStore}

-- ---- checkpoints

-- the map and the book that a file opens to
pub record Checkpoint : Type 0 where
  pub map : Map
  pub book : Book

abbrev pub OpensTo : ℕ → Checkpoint → List ℕ → Type 0
OpensTo classes k image = Opens classes SIZE_MAX image k.map k.book

-- the checkpoint of a state: at a desk with a flush in hand, the one that it will settle
abbrev pub kept_of : State → Checkpoint
kept_of t = record { map = t.kept; book = t.kept_book }

-- The last checkpoint of a desk that is settled: that of its state, but while a flush is in hand the one from
-- before its request.
abbrev pub settled_of : Checkpoint → Desk → Checkpoint
settled_of k d = by d.hand
  where
    by : Option Flush → Checkpoint
    by None = kept_of d.state
    by (Some f) = k

-- ---- where a disk rests

-- A flush in hand began on a disk that rested at a checkpoint, and the disk half agrees since.
pub record BeganAt (classes : ℕ) (s : StoreValue) (h : FlushInHand) (d : disk.State)
    (k : Checkpoint) : Type 0 where
  pub origin : Origin
  pub at_rest : IsTrue origin.is_at_rest
  pub half : HalfAgrees classes s h origin d
  pub map : origin.kept_map ≡ k.map
  pub book : origin.kept_book ≡ k.book

-- The disk rests on the table of the last checkpoint; or a flush is in hand that began when it rested at this
-- checkpoint.
pub record RestsFrom (classes : ℕ) (s : StoreValue) (d : disk.State) (k : Checkpoint) : Type 0 where
  pub idle : s.in_hand ≡ None → RestsOnTable (base_of s) s.kept d
  pub held : (h : FlushInHand) → s.in_hand ≡ Some h → BeganAt classes s h d k

-- What a crash may leave now opens to the checkpoint that the desk has settled, or to the one that a flush in
-- hand will settle.
abbrev pub OpensNow : ℕ → StoreValue → ℕ → disk.State → Type 0
OpensNow classes s session now = IsTrue now.tells → (d : Desk) → ShowsStore s session now.file d
    → (k : Checkpoint) → RestsFrom classes s now k → (image : List ℕ) → now.may_leave image
    → OpensTo classes (settled_of k d) image ⊎ OpensTo classes (kept_of d.state) image

-- ---- what is left in an event

-- Each image that is left meanwhile opens to one checkpoint or to the other; and where the disk didn't fail
-- it rests, or a flush is in hand that began when it rested at the one.
pub record LeavesFrom {T : Type 0} (classes : ℕ) (new : StoreValue) (before now : disk.State)
    (one other : Checkpoint) (result : Result T End) : Type 0 where
  pub left : Leaves before now (λ image. OpensTo classes one image ⊎ OpensTo classes other image)
  pub rests : is_disk_fault result ≡ false → RestsFrom classes new now one

-- In an event what is left opens to the checkpoint that was settled before it, or to that of the desk after
-- it.
abbrev pub LeavesStep : {T : Type 0} → ℕ → (Answer → Desk → Type 0) → StoreValue → StoreValue → disk.State
    → disk.State → Desk → Result T End → Type 0
LeavesStep classes steps old new before now d result = (k : Checkpoint) → RestsFrom classes old before k
    → (a : Answer) (t : Desk) → steps a t
    → LeavesFrom classes new before now (settled_of k d) (kept_of t.state) result

-- At the end of the input it opens to the checkpoint that was settled before, or to that of the desk.
abbrev pub LeavesEnd : {T : Type 0} → ℕ → StoreValue → StoreValue → disk.State → disk.State → Desk
    → Result T End → Type 0
LeavesEnd classes old new before now d result = (k : Checkpoint) → RestsFrom classes old before k
    → LeavesFrom classes new before now (settled_of k d) (kept_of d.state) result

-- ---- what is left in a run

-- the checkpoint that was settled before the last of the desks
abbrev pub settled_before : Checkpoint → Desk → List Desk → Checkpoint
settled_before k d [] = k
settled_before k d (t ∷ ds) = settled_before (settled_of k d) t ds

-- one of the desks has this
abbrev pub SomeDesk : (Desk → Type 0) → List Desk → Type 0
SomeDesk P [] = ⊥
SomeDesk P (d ∷ ds) = P d ⊎ SomeDesk P ds

-- an image that is left in events of a desk: it opens to the checkpoint that was settled at first, or to that
-- of the desk after one of them
abbrev pub IsDeskImage : ℕ → Checkpoint → Desk → List Desk → List ℕ → Type 0
IsDeskImage classes k d ds image = OpensTo classes (settled_of k d) image
    ⊎ SomeDesk (λ t. OpensTo classes (kept_of t.state) image) ds

-- ---- which requests made them

-- an answer that acknowledges a checkpoint, or tells that a flush began which will make one
abbrev pub makes_checkpoint : Answer → Bool
makes_checkpoint (answer.to s reply) = acknowledges reply
makes_checkpoint (answer.begun s) = true
makes_checkpoint (answer.queued s) = false
makes_checkpoint (answer.full s) = false
makes_checkpoint (answer.empty s) = false
makes_checkpoint (answer.wait s) = false
makes_checkpoint answer.moved = false
makes_checkpoint answer.idle = false

-- the map and the book of a state
abbrev pub now_of : State → Checkpoint
now_of t = record { map = t.map; book = t.book }

-- a state has this that was left where an answer tells of a checkpoint
abbrev pub SomeMade : (State → Type 0) → List Answer → List Desk → Type 0
SomeMade P [] ds = ⊥
SomeMade P (a ∷ answers) [] = ⊥
SomeMade P (a ∷ answers) (d ∷ ds) = (IsTrue (makes_checkpoint a) × P d.state) ⊎ SomeMade P answers ds

-- An image opens to the checkpoint that was settled at first, to that of a flush that was in hand at first,
-- or to what stood after a request that was answered `ok kept` or began a flush.
abbrev pub IsMadeImage : ℕ → Checkpoint → Desk → List Answer → List Desk → List ℕ → Type 0
IsMadeImage classes k d answers ds image = OpensTo classes (settled_of k d) image
    ⊎ OpensTo classes (kept_of d.state) image ⊎ SomeMade (λ t. OpensTo classes (now_of t) image) answers ds
