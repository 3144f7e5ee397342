-- What `format` is to answer, and what it leaves of its bay.
use Rattle.std.specs.Prelude.{◌≡◌, ◌⊎◌, ℕ, ◌==◌, if◌then◌else◌, List, length, codes, Result, Ok, Err}
use Rattle.disk_face.specs.Counts.{counted}
use Rattle.command_face.specs.declared.stop.StopReason.{StopReason}
use Rattle.command_face.specs.declared.stop.StopReason.TheVariants as stop
use Rattle.std.specs.FinMap as fin
use Rattle.disk_face.specs.States.{State}
use Rattle.disk_face.specs.Moments.{Leaves, Rests}
use Rattle.size_class.specs.declared.TheConstants.{CLASSES, SIZE_MAX}
use Rattle.slot_pair.specs.Formats.{HasFirstTable, IsNoStore, first_table, formatted_file}
use Rattle.segment_layout.specs.Books.{empty_book}
use Rattle.table_rules.specs.Opening.{OpensBy}

-- only an empty file is formatted
abbrev pub format_answer : List ℕ → Result (List ℕ) StopReason
format_answer file = if length file == 0 then Ok (codes "formatted\n") else Err (stop.Taken (length file))

-- a file was formatted: only telling so may have failed
abbrev pub IsDone : Result (Unit {0}) StopReason → Type 0
IsDone end = (end ≡ Ok tt) ⊎ (end ≡ Err stop.Sink)

-- A file is the store with no names: it has the table that a store is made with, and by that it opens to the
-- empty map and the empty book.
pub record IsEmptyStore (k names : ℕ) (file : List ℕ) : Type 0 where
  pub table : HasFirstTable k names file
  pub opens : OpensBy CLASSES SIZE_MAX (first_table k names) file fin.empty empty_book

-- a file is no store, or the store with no names
abbrev pub IsNoneOrEmpty : ℕ → ℕ → List ℕ → Type 0
IsNoneOrEmpty k names file = IsNoStore file ⊎ IsEmptyStore k names file

-- A file was formatted by ten changing calls: it is the store with no names, and so is each image that a
-- crash leaves now.
pub record IsFormatted (k names : ℕ) (old new : State) : Type 0 where
  pub file : new.file ≡ formatted_file k names
  pub store : IsEmptyStore k names new.file
  pub rests : Rests new
  pub left : (image : List ℕ) → new.may_leave image → IsEmptyStore k names image
  pub calls : new.turn ≡ counted old.turn 10

-- What `format` of an empty file leaves: no store, or the store with no names, and so does a crash at any
-- moment where the file rested empty. Once it is done, the file is that store.
pub record Formats (k names : ℕ) (old new : State) (done : Type 0) : Type 0 where
  pub stopped : IsNoneOrEmpty k names new.file
  pub images : Rests old → Leaves old new (IsNoneOrEmpty k names)
  pub formatted : done → IsFormatted k names old new
