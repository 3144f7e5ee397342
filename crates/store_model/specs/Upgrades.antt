-- What an upgrade leaves: what stands now is the checkpoint, of version 2, with the digest of each object.
use Rattle.std.specs.Prelude.{◌≡◌, ◌⊎◌, ℕ, ◌==◌, nat_le, nat_lt, true, false, if◌then◌else◌, List, Option, Some, None, Result, Ok, Err, IsTrue, OnErr, OnOk}
use Rattle.std.specs.FinMap as fin
use Rattle.disk_face.specs.States as disk
use Rattle.disk_face.specs.Frames.{Calls}
use Rattle.disk_face.specs.Moments.{Leaves, Rests}
use Rattle.disk_face.specs.Writes.{KeepsDisk}
use Rattle.size_class.specs.declared.TheConstants.{SIZE_MAX}
use Rattle.slot_codec.specs.Choice.{Digests}
use Rattle.slot_codec.specs.Spelling.{cap}
use Rattle.slot_pair.specs.Saves.{save_calls}
use Rattle.segment_layout.specs.Books.{Book, digests_of, version_of, with_digests}
use Rattle.table_rules.specs.Opening.{Opens}
use Rattle.store_model.specs.declared.answers.Refusal.{Refusal}
use Rattle.store_model.specs.declared.answers.Refusal.TheVariants as why
use Rattle.store_model.specs.declared.answers.Done.{Done}
use Rattle.store_model.specs.Keeps.{OpensToKeptOrNow, kept_now, now_map}
use Rattle.store_model.specs.Connection.{RestsOnTable, StoreValue, base_of}
use Rattle.store_model.specs.States.{refused_from}

-- The answer of an upgrade that does nothing, if there is one: of a store that is broken, that is of version
-- 2, that has more names than a table of version 2 has records, or whose sequence leaves no save.
abbrev pub idle_answer : StoreValue → Option (Result Done Refusal)
idle_answer s =
    if s.is_broken then Some (Err why.Broken)
    else if version_of s.book == 2 then Some (Ok (record { kept = false }))
    else if nat_lt (cap s.in_use.block.names 2) (fin.len s.now) then Some (Err why.TooMany)
    else if nat_le refused_from s.in_use.sequence then Some (Err why.Worn)
    else None

-- the answer is that one; where there is none, a checkpoint was saved, or the disk failed
abbrev pub AnswersUpgrade : Option (Result Done Refusal) → Result Done Refusal → Type 0
AnswersUpgrade None result = (result ≡ Ok (record { kept = true })) ⊎ (result ≡ Err why.Disk)
AnswersUpgrade (Some answer) result = result ≡ answer

-- the book once each name has a digest
abbrev pub upgraded_book : StoreValue → Digests → Book
upgraded_book s digests = with_digests (Some digests) s.book

-- the store once these are the digests of its objects
abbrev pub upgraded : StoreValue → Digests → StoreValue
upgraded s digests = record s { book = upgraded_book s digests }

-- the digests of the objects of now
abbrev pub digests_now : StoreValue → List ℕ → Digests
digests_now s file = digests_of (now_map s file)

-- What an upgrade does that is begun, whether the disk fails or not. The content opens to the last checkpoint
-- as it was, or to what stands now with the digest of each object, and so does all that a crash may leave
-- meanwhile, where the disk rested on its table. Once it is done, the latter is all that a crash may leave.
pub record Upgrades (classes : ℕ) (old new : StoreValue) (before now : disk.State)
    (result : Result Done Refusal) : Type 0 where
  pub value : OnOk result ((digests : Digests) × (new ≡ kept_now (upgraded old digests)))
  pub digests : IsTrue before.tells → OnOk result (new.book ≡ upgraded_book old (digests_now old before.file))
  pub failed : OnErr result (new ≡ record old { is_broken = true })
  pub saved : IsTrue before.tells → OnOk result (Opens classes SIZE_MAX now.file (now_map old before.file)
      (upgraded_book old (digests_now old before.file)))
  pub content : IsTrue before.tells
      → OpensToKeptOrNow classes (upgraded old (digests_now old before.file)) before.file now.file
  pub left : IsTrue before.tells → RestsOnTable (base_of old) old.kept before → Leaves before now
      (OpensToKeptOrNow classes (upgraded old (digests_now old before.file)) before.file)
  pub rests : IsTrue before.tells → OnOk result (Rests now)
  pub on_table : IsTrue before.tells → OnOk result (RestsOnTable (base_of new) new.kept now)
  pub calls : Calls (save_calls (fin.len old.now)) before now result
  pub frame : KeepsDisk before now
