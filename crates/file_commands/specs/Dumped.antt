-- What `dump` is to put, against the bytes of the file.
use Rattle.std.specs.Prelude.{◌≡◌, ◌⊎◌, List, ℕ, [], ◌++◌, Result, Ok, Err, IfErr, IsTrue}
use Rattle.std.specs.FinMap as fin
use Rattle.disk_face.specs.Streams.{Puts, SinkState}
use Rattle.size_class.specs.declared.TheConstants.{CLASSES, SIZE_MAX}
use Rattle.map_model.specs.Maps.{Map}
use Rattle.segment_layout.specs.Books.{Book}
use Rattle.table_rules.specs.Opening.{Reads}
use Rattle.dump_stream.specs.Dumping.{AreSound, sound_front}
use Rattle.dump_stream.specs.Dumps.{dump_line, dump_text, objects_text}
use Rattle.command_face.specs.declared.stop.StopReason.{StopReason}
use Rattle.command_face.specs.declared.stop.StopReason.TheVariants as stop
use Rattle.command_face.specs.Refusing.{IsNotRead}

-- The file is read by its mark, and this holds of its map and its book.
pub record IsOfMap (file : List ℕ) (holds : Map → Book → Type 0) : Type 0 where
  pub map : Map
  pub book : Book
  pub reads : Reads CLASSES SIZE_MAX file map book
  pub so : holds map book

-- no object of a map is damaged
abbrev pub IsSoundMap : Map → Book → Type 0
IsSoundMap m b = AreSound b.digests (fin.entries m)

-- these bytes are the dump of the file's map
abbrev pub IsDump : List ℕ → List ℕ → Type 0
IsDump file bytes = IsOfMap file (λ m b. bytes ≡ dump_text CLASSES m)

-- the same, and none of its objects is damaged
abbrev pub IsSoundDump : List ℕ → List ℕ → Type 0
IsSoundDump file bytes = IsOfMap file (λ m b. IsSoundMap m b × (bytes ≡ dump_text CLASSES m))

-- an object is damaged, and these bytes are what the dump has before the text of the first such
abbrev pub IsCutDump : List ℕ → List ℕ → Type 0
IsCutDump file bytes = IsOfMap file (λ m b. (IsSoundMap m b → ⊥)
    × (bytes ≡ dump_line CLASSES m ++ objects_text (sound_front b.digests (fin.entries m))))

-- How `dump` ends. Done: `bytes` is the dump, and no object is damaged. An object is damaged: it is what
-- stands
-- before. A device failed: it is the dump, or where the disk failed nothing. Else there is nothing.
abbrev pub EndsDump : List ℕ → List ℕ → Result (Unit {0}) StopReason → Type 0
EndsDump file bytes (Ok x) = IsSoundDump file bytes
EndsDump file bytes (Err stop.Damaged) = IsCutDump file bytes
EndsDump file bytes (Err stop.Sink) = IsDump file bytes
EndsDump file bytes (Err stop.Disk) = IsDump file bytes ⊎ (bytes ≡ [])
EndsDump file bytes (Err stop.NoFile) = bytes ≡ []
EndsDump file bytes (Err stop.NoMemory) = bytes ≡ []
EndsDump file bytes (Err why) = IsNotRead file (Err why) × (bytes ≡ [])

-- It has put these bytes, or a front of them where a device failed.
pub record Dumps (file : List ℕ) (old new : SinkState) (end : Result (Unit {0}) StopReason) : Type 0 where
  pub bytes : List ℕ
  pub ends : EndsDump file bytes end
  pub puts : IsTrue old.tells → Puts old.given new.given bytes end
  pub cut : IsTrue old.tells → end ≡ Err stop.Damaged → new.given ≡ old.given ++ bytes

-- where it stopped, no device failed and no object is damaged, nothing was put
abbrev pub PutsNoDump : {O : Type 0} → O → O → Result (Unit {0}) StopReason → Type 0
PutsNoDump old new end = IfErr end
    (λ why. (why ≡ stop.Disk) ⊎ (why ≡ stop.Sink) ⊎ (why ≡ stop.Damaged) ⊎ (new ≡ old))
