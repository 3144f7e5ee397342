-- What a put or a removal does that isn't quiet: it is made with a flush, which saves a checkpoint of it.
use Rattle.std.specs.Prelude.{◌≡◌, ◌⊎◌, ℕ, ◌+◌, ◌-◌, ◌*◌, ◌<◌, ◌≤◌, true, false, cond, List, length, slice_index, Option, Some, None, option_map, Result, IfSome, IsTrue, OnOk}
use Rattle.std.specs.FinMap as fin
use Rattle.disk_face.specs.States as disk
use Rattle.disk_face.specs.Counts.{HasCause}
use Rattle.disk_face.specs.Moments.{Leaves, Rests}
use Rattle.disk_face.specs.Writes.{KeepsDisk}
use Rattle.size_class.specs.declared.TheConstants.{SIZE_MAX}
use Rattle.map_model.specs.Maps.{Map}
use Rattle.map_model.specs.Requests as ask
use Rattle.map_model.specs.Requests.{Change, changed}
use Rattle.map_model.specs.Weights.{same_name}
use Rattle.segment_layout.specs.Books.{Book, is_quiet, next_book, trigger, volumes}
use Rattle.segment_layout.specs.Bounds.{Loose}
use Rattle.segment_layout.specs.Shapes.{boundary_of}
use Rattle.table_rules.specs.Opening.{Opens}
use Rattle.table_rules.specs.Sequences.{HasSequenceUpTo}
use Rattle.flush_run.specs.Calls.{CallsSoFar, piece_calls}
use Rattle.flush_run.specs.Parts.{size_in}
use Rattle.store_model.specs.Sized.{IsSizedBy}
use Rattle.store_model.specs.declared.answers.Refusal.{Refusal}
use Rattle.store_model.specs.declared.answers.Done.{Done}
use Rattle.store_model.specs.Answers.{AnswersChange, done_reply, is_disk_fault, reply_of}
use Rattle.store_model.specs.Changes.{IsQuietChange}
use Rattle.store_model.specs.Connection.{IsConnected, StoreValue, RestsOnTable, base_of, kept_map, limits_of, state_of}
use Rattle.store_model.specs.Keeps.{now_map}
use Rattle.store_model.specs.Quiet.{asked_after, charges_of}
use Rattle.store_model.specs.States.{Step}

-- the map of a store over a file once it is changed, and its book then
abbrev pub map_after : StoreValue → Change → List ℕ → Map
map_after s c file = changed c (now_map s file)

abbrev pub book_after : StoreValue → Change → List ℕ → Book
book_after s c file = (next_book s.in_use.block.k (now_map s file) s.book c).book

-- how many names there are once a store is changed: the others, and the change's own where it has an object
abbrev pub names_after : StoreValue → Change → ℕ
names_after s c = of c.object
  where
    of : Option (List ℕ) → ℕ
    of None = fin.len (fin.remove s.now c.name)
    of (Some object) = fin.len (fin.remove s.now c.name) + 1

-- the size of a name's object once a store is changed, where it has one
abbrev pub size_after : StoreValue → Change → List ℕ → Option ℕ
size_after s c name = cond (same_name name c.name) (option_map length c.object) (size_in s.now name)

-- the class from which on the flush of a change lays the layout out anew
abbrev pub flush_boundary : StoreValue → Change → ℕ
flush_boundary s c = boundary_of (charges_of s c).grid (trigger (charges_of s c))

-- An image opens to the last checkpoint or to what stands after the change, with a sequence at most 2k + 1
-- greater, and its data part is within bounds for the maps before and after.
pub record IsFlushImage (classes : ℕ) (s : StoreValue) (c : Change) (file image : List ℕ) : Type 0 where
  pub opens : Opens classes SIZE_MAX image (kept_map s file) s.kept_book
      ⊎ Opens classes SIZE_MAX image (map_after s c file) (book_after s c file)
  pub sequence : HasSequenceUpTo (s.in_use.sequence + 2 * s.in_use.block.k + 1) image
  pub loose : Loose s.in_use.block.k (length image - base_of s) (now_map s file) (map_after s c file)

-- The store after a flush: each name has an object of the size that the change leaves it, the book is the
-- next one of any map whose objects had the sizes of what stood, what stands now is the checkpoint, the
-- sequence rose, and the bytes of the change were asked for.
pub record ChangesByFlush (c : Change) (old new : StoreValue) : Type 0 where
  pub same_block : new.in_use.block ≡ old.in_use.block
  pub sizes : (name : List ℕ) → size_in new.now name ≡ size_after old c name
  pub book : (m : Map) → IsSizedBy m old.now
      → new.book ≡ (next_book old.in_use.block.k m old.book c).book
  pub kept : new.kept ≡ new.now
  pub kept_book : new.kept_book ≡ new.book
  pub asked : new.asked ≡ asked_after old c
  pub saved : old.in_use.sequence + 1 ≤ new.in_use.sequence

-- What a change does that isn't quiet, whether the disk fails or not. The content opens to the last
-- checkpoint or to what stands after the change, and so does all that a crash may leave meanwhile, where the
-- disk rested on its table. Once it is done, the new content is all that a crash may leave. At most 2k
-- saves are made. The calls are at most 4, those of the bytes moved, and those of the saves, each of as
-- many records as there are names after the change; where the disk failed those of one move more, and of
-- one save. No byte of a class below the boundary is moved, and of each other class at most twice the
-- bytes of the map after; on a disk that tells nothing, of any map changed so whose objects had the
-- sizes of what stood.
pub record IsFlush (classes : ℕ) (c : Change) (old new : StoreValue) (before now : disk.State)
    (result : Result Done Refusal) : Type 0 where
  pub value : OnOk result (ChangesByFlush c old new)
  pub opened : IsTrue before.tells
      → OnOk result (Opens classes SIZE_MAX now.file (map_after old c before.file)
      (book_after old c before.file))
  pub content : IsTrue before.tells → IsFlushImage classes old c before.file now.file
  pub left : IsTrue before.tells → RestsOnTable (base_of old) old.kept before
      → Leaves before now (IsFlushImage classes old c before.file)
  pub rests : IsTrue before.tells → OnOk result (Rests now)
  pub on_table : IsTrue before.tells → OnOk result (RestsOnTable (base_of new) new.kept now)
  pub few_saves : new.in_use.sequence ≤ old.in_use.sequence + 2 * old.in_use.block.k
  pub calls : OnOk result (CallsSoFar before.turn now.turn old.moved new.moved 4
      (new.in_use.sequence - old.in_use.sequence) (names_after old c))
  pub most : CallsSoFar before.turn now.turn old.moved new.moved (piece_calls + 4)
      (new.in_use.sequence - old.in_use.sequence + 1) (names_after old c)
  pub lower : (d : ℕ) → d < flush_boundary old c → slice_index new.moved d ≡ slice_index old.moved d
  pub few : IsTrue before.tells → (d : ℕ) → slice_index new.moved d
      ≤ slice_index old.moved d + 2 * slice_index (volumes (map_after old c before.file)) d
  pub few_by_size : (m : Map) → IsSizedBy m old.now → (d : ℕ) → slice_index new.moved d
      ≤ slice_index old.moved d + 2 * slice_index (volumes (changed c m)) d
  pub frame : KeepsDisk before now
  pub cause : HasCause before.faults now.faults result

-- A change that is served, quiet or not.
pub record ServesChange (classes : ℕ) (c : Change) (old new : StoreValue) (before now : disk.State)
    (result : Result Done Refusal) : Type 0 where
  pub answer : AnswersChange (is_quiet (charges_of old c)) None result
  pub quiet : is_quiet (charges_of old c) ≡ true → IsQuietChange classes c old new before now result
  pub flush : is_quiet (charges_of old c) ≡ false → IsFlush classes c old new before now result
  pub step : IsTrue before.tells → IfSome (reply_of done_reply result) (λ reply. Step (limits_of old)
      (state_of old before.file) (ask.change c) reply (state_of new now.file))
  pub over : IsConnected classes new now
  pub broken : new.is_broken ≡ is_disk_fault result
