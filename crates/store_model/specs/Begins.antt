-- What a begin of a put or a removal does, whether it is refused, quiet, or leaves a flush in hand.
use Rattle.std.specs.Prelude.{◌≡◌, ℕ, ◌+◌, ◌*◌, ◌≤◌, Bool, true, false, ◌||◌, if◌then◌else◌, List, Option, Some, None, ◌⊎◌, Result, Ok, Err, IfSome, IsNone, IsSome, IsTrue, OnOk}
use Rattle.disk_face.specs.Counts.{HasCause}
use Rattle.disk_face.specs.Moments.{Leaves}
use Rattle.disk_face.specs.States as disk
use Rattle.disk_face.specs.Writes.{KeepsDisk}
use Rattle.map_model.specs.Maps.{Map}
use Rattle.map_model.specs.Requests as ask
use Rattle.map_model.specs.Requests.{Change, Reply}
use Rattle.segment_layout.specs.Books.{is_quiet, next_book}
use Rattle.extent_table.specs.Extents.{volume_of}
use Rattle.flush_run.specs.Parts.{size_in}
use Rattle.store_model.specs.Sized.{IsSizedBy}
use Rattle.store_model.specs.declared.answers.Begun.{Begun}
use Rattle.store_model.specs.declared.answers.Begun.TheVariants as begun
use Rattle.store_model.specs.declared.answers.Refusal.{Refusal}
use Rattle.store_model.specs.declared.answers.Refusal.TheVariants as why
use Rattle.store_model.specs.Answers.{is_disk_fault, refused_by, refused_reply}
use Rattle.store_model.specs.Changes.{IsQuietChange, NothingChanged}
use Rattle.store_model.specs.Facts.{bytes_left_of}
use Rattle.store_model.specs.Flushes.{IsFlushImage, flush_boundary, map_after, names_after, size_after}
use Rattle.store_model.specs.Keeps.{now_map}
use Rattle.store_model.specs.Connection.{FlushInHand, IsConnected, RestsOnTable, StoreValue, base_of, kept_map, limits_of, state_of}
use Rattle.store_model.specs.Flushing.{spots_after}
use Rattle.store_model.specs.Halves.{HalfAgrees, IsHalfway, Origin}
use Rattle.store_model.specs.Quiet.{asked_after, charges_of}
use Rattle.store_model.specs.States.{Step}

-- the answer is the refusal; where there is none, the change was done where it is quiet, and else a flush is
-- in hand, or the disk failed
abbrev pub AnswersBegin : Bool → Option Refusal → Result Begun Refusal → Type 0
AnswersBegin quiet None result = (result ≡ Ok (if quiet then begun.Done else begun.InHand))
    ⊎ (result ≡ Err why.Disk)
AnswersBegin quiet (Some refused) result = result ≡ Err refused

-- the reply that an answer stands for: there is none yet where a flush is in hand
abbrev pub begun_reply : Result Begun Refusal → Option Reply
begun_reply (Ok begun.Done) = Some ask.done
begun_reply (Ok begun.InHand) = None
begun_reply (Err refused) = refused_reply refused

-- what a flush begins with: the maps before and after a change, and the checkpoint before
abbrev pub origin_of : StoreValue → Change → List ℕ → Bool → Origin
origin_of s c file rests = record {
  before = now_map s file;
  after = map_after s c file;
  kept_map = kept_map s file;
  kept_book = s.kept_book;
  is_at_rest = rests;
}

-- A flush is in hand that began with a change: the new object has its place, each other one stands where it
-- stood, and each name has an object of the size that the change leaves it; the book after is the next one
-- of any map whose objects had the sizes of what stood; the bytes of the change were asked for, and nothing
-- was moved or saved. Twice as many steps may come as there are names, and one; and they move at most twice
-- the bytes of what stands.
pub record HoldsFlush (c : Change) (old new : StoreValue) (h : FlushInHand) : Type 0 where
  pub is : new.in_hand ≡ Some h
  pub place : ℕ
  pub places : new.now ≡ spots_after c old.now place
  pub sizes : (name : List ℕ) → size_in new.now name ≡ size_after old c name
  pub book : (m : Map) → IsSizedBy m old.now
      → h.book_after ≡ (next_book old.in_use.block.k m old.book c).book
  pub asked : new.asked ≡ asked_after old c
  pub boundary : h.boundary ≡ flush_boundary old c
  pub steps : h.left ≡ 2 * names_after old c + 1
  pub bytes : bytes_left_of new ≡ 2 * volume_of new.now
  pub began : h.began ≡ old.in_use.sequence
  pub moved_then : h.moved_then ≡ old.moved
  pub rest : new ≡ record old {
    now = new.now;
    book = new.book;
    kept_book = new.kept_book;
    asked = new.asked;
    in_hand = new.in_hand;
  }

-- What a begin does of a change that isn't quiet, whether the disk fails or not: where it doesn't, a flush is
-- in hand and the disk half agrees, also as a disk at rest where it rested on its table. The content opens to
-- the last checkpoint or to what stands after the change, and so does all that a crash may leave meanwhile,
-- where the disk rested. Nothing is moved or saved, and at most two calls are made.
pub record BeginsFlush (classes : ℕ) (c : Change) (old new : StoreValue) (before now : disk.State)
    (result : Result Begun Refusal) : Type 0 where
  pub holds : OnOk result ((h : FlushInHand) × HoldsFlush c old new h)
  pub half : IsTrue before.tells → (rests : Bool)
      → (IsTrue rests → RestsOnTable (base_of old) old.kept before) → (h : FlushInHand)
      → new.in_hand ≡ Some h → HalfAgrees classes new h (origin_of old c before.file rests) now
  pub content : IsTrue before.tells → IsFlushImage classes old c before.file now.file
  pub left : IsTrue before.tells → RestsOnTable (base_of old) old.kept before
      → Leaves before now (IsFlushImage classes old c before.file)
  pub moved : new.moved ≡ old.moved
  pub pair : new.in_use ≡ old.in_use
  pub calls : now.turn ≤ before.turn + 2
  pub frame : KeepsDisk before now
  pub cause : HasCause before.faults now.faults result

-- how a store and its disk belong together after a begin
abbrev pub AfterBegin : ℕ → StoreValue → disk.State → Result Begun Refusal → Type 0
AfterBegin classes s d (Ok begun.InHand) = IsHalfway classes s d
AfterBegin classes s d (Ok begun.Done) = IsConnected classes s d
AfterBegin classes s d (Err refused) = IsConnected classes s d

-- A begin that is served, of a change that is quiet or not.
pub record BeginsServed (classes : ℕ) (c : Change) (old new : StoreValue) (before now : disk.State)
    (result : Result Begun Refusal) : Type 0 where
  pub answer : AnswersBegin (is_quiet (charges_of old c)) None result
  pub quiet : is_quiet (charges_of old c) ≡ true → IsQuietChange classes c old new before now result
  pub flush : is_quiet (charges_of old c) ≡ false → BeginsFlush classes c old new before now result
  pub step : IsTrue before.tells → IfSome (begun_reply result) (λ reply. Step (limits_of old)
      (state_of old before.file) (ask.change c) reply (state_of new now.file))
  pub over : AfterBegin classes new now result
  pub broken : new.is_broken ≡ is_disk_fault result

-- A begin answers the first refusal that applies, and then nothing changed. Else the change is quiet and
-- done, or its flush is in hand: which of the two is known before.
pub record BeginsChange (classes : ℕ) (c : Change) (old new : StoreValue) (before now : disk.State)
    (result : Result Begun Refusal) : Type 0 where
  pub answer : AnswersBegin (is_quiet (charges_of old c)) (refused_by old (ask.change c)) result
  pub refused : IsSome (refused_by old (ask.change c)) → NothingChanged old new before now
  pub quiet : IsNone (refused_by old (ask.change c)) → is_quiet (charges_of old c) ≡ true
      → IsQuietChange classes c old new before now result
  pub flush : IsNone (refused_by old (ask.change c)) → is_quiet (charges_of old c) ≡ false
      → BeginsFlush classes c old new before now result
  pub over : AfterBegin classes new now result
  pub broken : new.is_broken ≡ (old.is_broken || is_disk_fault result)
