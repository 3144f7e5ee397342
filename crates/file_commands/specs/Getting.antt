-- What `get` is to answer, against the bytes of the file.
use Rattle.std.specs.Prelude.{◌≡◌, ◌⊎◌, if◌then◌else◌, List, ℕ, Option, Some, None, Result, Ok, Err}
use Rattle.std.specs.FinMap as fin
use Rattle.size_class.specs.declared.TheConstants.{CLASSES, SIZE_MAX}
use Rattle.map_model.specs.Maps.{Map}
use Rattle.segment_layout.specs.Books.{Book, differs, is_damaged}
use Rattle.table_rules.specs.Opening.{Reads}
use Rattle.command_face.specs.declared.stop.StopReason.{StopReason}
use Rattle.command_face.specs.declared.stop.StopReason.TheVariants as stop
use Rattle.command_face.specs.Refusing.{IsNotRead}

-- the bytes of an object, or that there is none
abbrev pub or_missing : Option (List ℕ) → Result (List ℕ) StopReason
or_missing None = Err stop.Missing
or_missing (Some object) = Ok object

-- the same, unless the object has another digest than this
abbrev pub checked : Option (List ℕ) → Option (List ℕ) → Result (List ℕ) StopReason
checked digest object = if differs digest object then Err stop.Damaged else or_missing object

-- the digest of a name, if there are digests
abbrev pub digest_of : Option Map → List ℕ → Option (List ℕ)
digest_of None name = None
digest_of (Some digests) name = fin.get digests name

-- What a map gives to a name: the bytes of its object, or that there is none, or that the book has a digest
-- for it that isn't the SHA-256 of these bytes.
abbrev pub given : Book → Map → List ℕ → Result (List ℕ) StopReason
given book m name = if is_damaged book m name then Err stop.Damaged else or_missing (fin.get m name)

-- The file is read by its mark, and the answer is what its map gives to the name by its book.
pub record IsGiven (name file : List ℕ) (answer : Result (List ℕ) StopReason) : Type 0 where
  pub map : Map
  pub book : Book
  pub reads : Reads CLASSES SIZE_MAX file map book
  pub same : answer ≡ given book map name

-- what `get` of a name is to answer, of a file whose slots have logs or have none
abbrev pub IsObject : List ℕ → List ℕ → Result (List ℕ) StopReason → Type 0
IsObject name file answer = IsGiven name file answer ⊎ IsNotRead file answer

-- a command stops for this reason as it is to, unless the disk or memory failed
abbrev pub StopsAs : (Result (List ℕ) StopReason → Type 0) → StopReason → Type 0
StopsAs answer stop.Disk = Unit {0}
StopsAs answer stop.NoMemory = Unit {0}
StopsAs answer why = answer (Err why)
