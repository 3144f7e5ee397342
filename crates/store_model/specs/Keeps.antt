-- What a keep leaves: what stands now is the checkpoint.
use Rattle.std.specs.Prelude.{◌≡◌, ◌⊎◌, ℕ, ◌+◌, true, List, length, Option, Some, None, Result, Ok, Err, IsNone, IsSome, IsTrue, OnErr, OnOk}
use Rattle.std.specs.FinMap as fin
use Rattle.disk_face.specs.States as disk
use Rattle.disk_face.specs.Frames.{Calls}
use Rattle.disk_face.specs.Moments.{Leaves, Rests}
use Rattle.disk_face.specs.Writes.{KeepsDisk}
use Rattle.size_class.specs.declared.TheConstants.{SIZE_MAX}
use Rattle.slot_pair.specs.Saves.{next_in_use, save_calls}
use Rattle.map_model.specs.Maps.{Map}
use Rattle.map_model.specs.Requests as ask
use Rattle.table_rules.specs.Opening.{Opens}
use Rattle.table_rules.specs.Sequences.{HasSequenceUpTo}
use Rattle.placement_model.specs.Reads.{read_at}
use Rattle.store_model.specs.declared.answers.Refusal.{Refusal}
use Rattle.store_model.specs.declared.answers.Refusal.TheVariants as why
use Rattle.store_model.specs.declared.answers.Done.{Done}
use Rattle.store_model.specs.Answers.{refused_by}
use Rattle.store_model.specs.Changes.{NothingChanged}
use Rattle.store_model.specs.Connection.{StoreValue, RestsOnTable, base_of, kept_map}

-- the answer is the refusal; where there is none, a checkpoint was saved, or the disk failed
abbrev pub AnswersKeep : Option Refusal → Result Done Refusal → Type 0
AnswersKeep None result = (result ≡ Ok (record { kept = true })) ⊎ (result ≡ Err why.Disk)
AnswersKeep (Some refused) result = result ≡ Err refused

-- what a file gives where the objects stand now
abbrev pub now_map : StoreValue → List ℕ → Map
now_map s file = read_at (base_of s) file s.now

-- the store whose checkpoint is what stands now, in the other slot
abbrev pub kept_now : StoreValue → StoreValue
kept_now s = record s { in_use = next_in_use s.in_use; kept = s.now; kept_book = s.book }

-- an image with the content's length, that opens to the last checkpoint or to what stands now, by a table
-- whose sequence is at most the next
pub record OpensToKeptOrNow (classes : ℕ) (s : StoreValue) (file image : List ℕ) : Type 0 where
  pub same_length : length image ≡ length file
  pub opens : Opens classes SIZE_MAX image (kept_map s file) s.kept_book
      ⊎ Opens classes SIZE_MAX image (now_map s file) s.book
  pub sequence : HasSequenceUpTo (s.in_use.sequence + 1) image

-- What a keep does, whether the disk fails or not. The content opens to the last checkpoint or to what stands
-- now, and so does all that a crash may leave meanwhile, where the disk rested on its table. Once it is done,
-- what stands now is all that a crash may leave.
pub record KeepsNow (classes : ℕ) (old new : StoreValue) (before now : disk.State)
    (result : Result Done Refusal)
    : Type 0 where
  pub value : OnOk result (new ≡ kept_now old)
  pub failed : OnErr result (new ≡ record old { is_broken = true })
  pub saved : IsTrue before.tells
      → OnOk result (Opens classes SIZE_MAX now.file (now_map old before.file) old.book)
  pub content : IsTrue before.tells → OpensToKeptOrNow classes old before.file now.file
  pub left : IsTrue before.tells → RestsOnTable (base_of old) old.kept before
      → Leaves before now (OpensToKeptOrNow classes old before.file)
  pub rests : IsTrue before.tells → OnOk result (Rests now)
  pub on_table : IsTrue before.tells → OnOk result (RestsOnTable (base_of new) new.kept now)
  pub calls : Calls (save_calls (fin.len old.now)) before now result
  pub frame : KeepsDisk before now

-- What a keep says of a store and its disk, before and after: it is refused, or does this.
pub record IsKeep (classes : ℕ) (old new : StoreValue) (before now : disk.State)
    (result : Result Done Refusal) : Type 0 where
  pub answer : AnswersKeep (refused_by old ask.keep) result
  pub refused : IsSome (refused_by old ask.keep) → NothingChanged old new before now
  pub kept : IsNone (refused_by old ask.keep) → KeepsNow classes old new before now result
