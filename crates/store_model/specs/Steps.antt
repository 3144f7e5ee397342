-- What one step of a flush in hand does.
use Rattle.std.specs.Prelude.{◌≡◌, ℕ, ◌+◌, ◌-◌, ◌*◌, ◌<◌, ◌≤◌, Bool, if◌then◌else◌, List, slice_index, Some, None, ◌⊎◌, Result, Ok, Err, IsTrue}
use Rattle.std.specs.FinMap as fin
use Rattle.disk_face.specs.Counts.{HasCause, counted}
use Rattle.disk_face.specs.Moments.{Leaves, Rests}
use Rattle.disk_face.specs.States as disk
use Rattle.disk_face.specs.Writes.{KeepsDisk}
use Rattle.size_class.specs.declared.TheConstants.{SIZE_MAX}
use Rattle.data_area.specs.Pieces.{pieces}
use Rattle.slot_pair.specs.Saves.{next_in_use, save_calls}
use Rattle.map_model.specs.Maps.{Map}
use Rattle.segment_layout.specs.Books.{volumes}
use Rattle.table_rules.specs.Opening.{Opens}
use Rattle.extent_table.specs.declared.spot.Spot.{Spot}
use Rattle.flush_run.specs.Calls.{CallsSoFar, IsOpenRow, piece_calls}
use Rattle.flush_run.specs.MadeMoves.{calls_of_save}
use Rattle.store_model.specs.Sized.{IsSizedBy}
use Rattle.store_model.specs.declared.answers.Progress.{Progress}
use Rattle.store_model.specs.declared.answers.Progress.TheVariants as progress
use Rattle.store_model.specs.declared.answers.Refusal.{Refusal}
use Rattle.store_model.specs.declared.answers.Refusal.TheVariants as why
use Rattle.store_model.specs.Answers.{is_disk_fault}
use Rattle.store_model.specs.Facts.{bytes_left_of}
use Rattle.store_model.specs.Connection.{FlushInHand, IsConnected, RestsOnTable, StoreValue, base_of}
use Rattle.store_model.specs.Halves.{HalfAgrees, IsHalfImage, IsHalfway, Origin}
use Rattle.store_model.specs.Quiet.{added}

-- an object was moved, or what stands now was settled, or the disk failed
abbrev pub AnswersStep : Result Progress Refusal → Type 0
AnswersStep result = (result ≡ Ok progress.Moved) ⊎ (result ≡ Ok progress.Settled) ⊎ (result ≡ Err why.Disk)

-- ---- what is made

-- One object was moved, whose bytes the ledger has gained, after a save of what stood or after none. The
-- calls are at most those of the save and of the pieces of the object. One step fewer is left, and at least
-- one; and as many bytes fewer as the object has, where no number of the ledger stands at its last value.
pub record MovesOne (old new : StoreValue) (h : FlushInHand) (before now : disk.State) : Type 0 where
  pub name : List ℕ
  pub spot : Spot
  pub place : ℕ
  pub there : fin.get old.now name ≡ Some spot
  pub now_there : new.now ≡ fin.insert old.now name (record { place = place; size = spot.size })
  pub row : new.moved ≡ added old.moved spot.size
  pub saved : Bool
  pub pair : new.in_use ≡ (if saved then next_in_use old.in_use else old.in_use)
  pub kept : new.kept ≡ (if saved then old.now else old.kept)
  pub turns : now.turn ≤ before.turn + calls_of_save saved (fin.len old.now) + pieces 65536 spot.size
  pub left : ℕ
  pub in_hand : new.in_hand ≡ Some (record h { left = left })
  pub fewer : h.left ≡ left + 1
  pub some : 1 ≤ left
  pub bytes : IsOpenRow new.moved → bytes_left_of old ≡ bytes_left_of new + spot.size
  pub rest : new ≡ record old {
    in_use = new.in_use;
    now = new.now;
    kept = new.kept;
    book = new.book;
    kept_book = new.kept_book;
    moved = new.moved;
    in_hand = new.in_hand;
  }

-- Nothing was moved, and what stands now is the checkpoint, by one save and two calls more, with the book of
-- after. No flush is in hand.
pub record Settles (old new : StoreValue) (h : FlushInHand) (before now : disk.State) : Type 0 where
  pub turns : now.turn ≡ counted before.turn (save_calls (fin.len old.now) + 2)
  pub rest : new ≡ record old {
    in_use = next_in_use old.in_use;
    kept = old.now;
    book = h.book_after;
    kept_book = h.book_after;
    in_hand = None;
  }

-- The disk failed: each object stands where it stood, no byte was counted as moved, at most one save was
-- made, and no flush is in hand.
pub record StopsFlush (old new : StoreValue) (before now : disk.State) : Type 0 where
  pub same_now : new.now ≡ old.now
  pub moved : new.moved ≡ old.moved
  pub asked : new.asked ≡ old.asked
  pub same_block : new.in_use.block ≡ old.in_use.block
  pub later : old.in_use.sequence ≤ new.in_use.sequence
  pub one : new.in_use.sequence ≤ old.in_use.sequence + 1
  pub turns : now.turn ≤ before.turn + save_calls (fin.len old.now) + (piece_calls + 2)
  pub idle : new.in_hand ≡ None

abbrev pub MakesOne : StoreValue → StoreValue → FlushInHand → disk.State → disk.State
    → Result Progress Refusal → Type 0
MakesOne old new h before now (Ok progress.Moved) = MovesOne old new h before now
MakesOne old new h before now (Ok progress.Settled) = Settles old new h before now
MakesOne old new h before now (Err refused) = StopsFlush old new before now

-- ---- what it sums up to

-- the calls beside those of moved bytes and of saves that were counted
abbrev pub more_of : Result Progress Refusal → ℕ
more_of (Ok progress.Moved) = 0
more_of (Ok progress.Settled) = 2
more_of (Err refused) = piece_calls + 2

-- the saves that may have failed
abbrev pub failed_of : Result Progress Refusal → ℕ
failed_of (Ok p) = 0
failed_of (Err refused) = 1

-- Since the flush began at most 2k saves were made, no byte of a class below its boundary was moved, and of
-- each other class at most twice the bytes of any map whose objects have the sizes of what stands. The calls
-- of the step are those of the bytes that it moved and of its saves.
pub record SumsOfStep (old new : StoreValue) (h : FlushInHand) (before now : disk.State)
    (result : Result Progress Refusal) : Type 0 where
  pub few_saves : new.in_use.sequence ≤ h.began + 2 * old.in_use.block.k
  pub lower : (c : ℕ) → c < h.boundary → slice_index new.moved c ≡ slice_index h.moved_then c
  pub few : (m : Map) → IsSizedBy m old.now → (c : ℕ)
      → slice_index new.moved c ≤ slice_index h.moved_then c + 2 * slice_index (volumes m) c
  pub calls : CallsSoFar before.turn now.turn old.moved new.moved (more_of result)
      (new.in_use.sequence - old.in_use.sequence + failed_of result) (fin.len old.now)

-- ---- how the disk goes on

-- it half agrees still, or it agrees, with the map after as its checkpoint
abbrev pub GoesOnHalf : ℕ → Origin → FlushInHand → StoreValue → disk.State → Result Progress Refusal
    → Type 0
GoesOnHalf classes o h new now (Ok progress.Moved) =
    (left : ℕ) → new.in_hand ≡ Some (record h { left = left })
    → HalfAgrees classes new (record h { left = left }) o now
GoesOnHalf classes o h new now (Ok progress.Settled) = Opens classes SIZE_MAX now.file o.after h.book_after
    × Rests now × RestsOnTable (base_of new) new.kept now
GoesOnHalf classes o h new now (Err refused) = Unit {0}

-- A step on a disk that half agreed: each image left meanwhile, and the content, is one of the flush.
pub record StepsHalf (classes : ℕ) (o : Origin) (old new : StoreValue) (before now : disk.State)
    (result : Result Progress Refusal) : Type 0 where
  pub hand : FlushInHand
  pub is : old.in_hand ≡ Some hand
  pub left : IsTrue o.is_at_rest → Leaves before now (IsHalfImage classes old hand o)
  pub content : IsHalfImage classes old hand o now.file
  pub on : GoesOnHalf classes o hand new now result

-- how a store and its disk belong together after a step
abbrev pub AfterStep : ℕ → StoreValue → disk.State → Result Progress Refusal → Type 0
AfterStep classes s d (Ok progress.Moved) = IsHalfway classes s d
AfterStep classes s d (Ok progress.Settled) = IsConnected classes s d
AfterStep classes s d (Err refused) = IsConnected classes s d

-- What a step says of a store and its disk, before and after: all of the above, and the cause of its answer.
-- At least one step was left.
pub record IsStep (classes : ℕ) (old new : StoreValue) (before now : disk.State)
    (result : Result Progress Refusal) : Type 0 where
  pub answer : AnswersStep result
  pub more : (h : FlushInHand) → old.in_hand ≡ Some h → 1 ≤ h.left
  pub makes : (h : FlushInHand) → old.in_hand ≡ Some h → MakesOne old new h before now result
  pub sums : (h : FlushInHand) → old.in_hand ≡ Some h → SumsOfStep old new h before now result
  pub half : IsTrue before.tells → (h : FlushInHand) (o : Origin) → old.in_hand ≡ Some h
      → HalfAgrees classes old h o before → StepsHalf classes o old new before now result
  pub over : AfterStep classes new now result
  pub broken : new.is_broken ≡ is_disk_fault result
  pub frame : KeepsDisk before now
  pub cause : HasCause before.faults now.faults result
