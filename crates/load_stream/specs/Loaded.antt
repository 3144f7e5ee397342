-- What a load answers of an input, and what the file and its images are then.
use Rattle.std.specs.Prelude.{◌≡◌, ◌⊎◌, ◌<◌, ◌≤◌, ℕ, ◌+◌, zero, suc, List, [], Result, Ok, Err, IsTrue, OnOk, length, sum}
use Rattle.std.specs.FinMap as fin
use Rattle.disk_face.specs.Counts.{counted}
use Rattle.disk_face.specs.Frames.{Asks}
use Rattle.disk_face.specs.Moments.{Leaves, Only, Rests}
use Rattle.disk_face.specs.States.{State}
use Rattle.size_class.specs.declared.TheConstants.{CLASSES, SIZE_MAX}
use Rattle.slot_codec.specs.Spelling.{head_len}
use Rattle.slot_pair.specs.Formats.{IsNoStore}
use Rattle.slot_pair.specs.Saves.{save_calls}
use Rattle.map_model.specs.Maps.{Map}
use Rattle.segment_layout.specs.Books.{book_end, volumes}
use Rattle.segment_layout.specs.Shapes.{end_of}
use Rattle.dump_stream.specs.Dumps.{IsDumpOf}
use Rattle.dump_stream.specs.Loading.{BeginsNone, BeginsWith, StopsAt}
use Rattle.dump_stream.specs.Placing.{laid_book}
use Rattle.load_stream.specs.declared.fault.LoadFault.{LoadFault}
use Rattle.load_stream.specs.declared.fault.LoadFault.TheVariants as why
use Rattle.load_stream.specs.Saved.{OpensEmpty, OpensFor}
use Rattle.load_stream.specs.Standing.{StandInOrder}
use Rattle.load_stream.specs.Steps.{Passed, object_calls}
use Rattle.load_stream.specs.Weights.{load_weight}

-- ---- the input

-- the input is the dump of a map, and there is room for as many names
pub record IsDumpWithin (names : ℕ) (input : List ℕ) : Type 0 where
  pub objects : Map
  pub dump : IsDumpOf CLASSES SIZE_MAX objects input
  pub few : fin.len objects ≤ names

-- the input stops being a dump at the object of this number, and there is room for as many names as it tells
pub record StopsBelow (names : ℕ) (input : List ℕ) (number : ℕ) : Type 0 where
  pub at : StopsAt CLASSES SIZE_MAX input number
  pub few : at.count ≤ names

-- the first line tells of so many objects, for which there is no room
pub record TellsTooMany (names : ℕ) (input : List ℕ) (count : ℕ) : Type 0 where
  pub begins : BeginsWith CLASSES input count
  pub more : names < count

-- a first line stands in front, and there is room for as many names as it tells
pub record TellsFew (names : ℕ) (input : List ℕ) : Type 0 where
  pub count : ℕ
  pub begins : BeginsWith CLASSES input count
  pub few : count ≤ names

-- What a load says of its input. Without memory, and where the disk failed, its first line is one, and there
-- is room for as many names; where the source failed it says nothing.
abbrev pub AnswersLoad : ℕ → List ℕ → Result Unit LoadFault → Type 0
AnswersLoad names input (Ok done) = IsDumpWithin names input
AnswersLoad names input (Err (why.Line zero)) = BeginsNone CLASSES input
AnswersLoad names input (Err (why.Line (suc n))) = StopsBelow names input (suc n)
AnswersLoad names input (Err (why.TooMany n)) = TellsTooMany names input n
AnswersLoad names input (Err why.NoMemory) = TellsFew names input
AnswersLoad names input (Err why.Disk) = TellsFew names input
AnswersLoad names input (Err why.Source) = Unit {0}

-- the changing calls of a load: ten of the format, one that sets the length, those of the objects and of
-- the save
abbrev pub load_calls : Map → ℕ
load_calls m = 11 + object_calls (fin.entries m) + save_calls (fin.len m)

-- The input was read to its end, and is the dump of a map, for whose names there is room. So many changing
-- calls were made.
pub record LoadsWhole (names : ℕ) (x : Passed) (first now : State) : Type 0 where
  pub objects : Map
  pub few : fin.len objects ≤ names
  pub dump : IsTrue x.tells → IsDumpOf CLASSES SIZE_MAX objects x.before
  pub ended : IsTrue x.tells → x.left ≡ []
  pub made : now.turn ≡ counted first.turn (load_calls objects)

-- A first line stands in front, and there is room for as many names as it tells. At most so much was asked as
-- a load of so many objects asks that fill the volumes of that line, and no length greater than that of the
-- file it would leave.
pub record AsksToLoad (k names : ℕ) (input : List ℕ) (first now : State) : Type 0 where
  pub tells : TellsFew names input
  pub asks : Asks (load_weight tells.count (sum tells.begins.volumes))
      (head_len names + end_of k tells.begins.volumes) first now

-- so much was asked at most by a load that is done, or for which the disk failed
abbrev pub AsksLoaded : ℕ → ℕ → List ℕ → State → State → Result Unit LoadFault → Type 0
AsksLoaded k names input first now (Ok done) = AsksToLoad k names input first now
AsksLoaded k names input first now (Err (why.Line n)) = Unit {0}
AsksLoaded k names input first now (Err (why.TooMany n)) = Unit {0}
AsksLoaded k names input first now (Err why.NoMemory) = Unit {0}
AsksLoaded k names input first now (Err why.Disk) = AsksToLoad k names input first now
AsksLoaded k names input first now (Err why.Source) = Unit {0}

-- an answer that says what the input is: all but those for want of memory or for a device
abbrev pub Judges : Result Unit LoadFault → Type 0
Judges (Ok done) = Unit {0}
Judges (Err (why.Line n)) = Unit {0}
Judges (Err (why.TooMany n)) = Unit {0}
Judges (Err why.NoMemory) = ⊥
Judges (Err why.Disk) = ⊥
Judges (Err why.Source) = ⊥

-- ---- the file

-- An image opens to a map with its objects laid out at once and nothing in buffers, and the input is that
-- map's dump and was read to its end. Each object stands behind the earlier ones of its class. The image is
-- made for this divisor and so many names, and ends with its layout.
pub record OpensDump (k names : ℕ) (x : Passed) (image : List ℕ) : Type 0 where
  pub objects : Map
  pub dump : IsTrue x.tells → IsDumpOf CLASSES SIZE_MAX objects x.before
  pub ended : IsTrue x.tells → x.left ≡ []
  pub opens : OpensFor k names image objects (laid_book objects)
  pub places : StandInOrder k (volumes objects) (fin.entries objects) opens.table.records
  pub ends : length image ≡ head_len names + book_end k (laid_book objects)

-- an image opens to the empty map, or to the map of which the input is the dump
abbrev pub IsEmptyOrDump : ℕ → ℕ → Passed → List ℕ → Type 0
IsEmptyOrDump k names x image = OpensEmpty k names image ⊎ OpensDump k names x image

-- an image is no store, or opens to the empty map, or to the map of which the input is the dump
abbrev pub IsLoadImage : ℕ → ℕ → Passed → List ℕ → Type 0
IsLoadImage k names x image = IsNoStore image ⊎ IsEmptyOrDump k names x image

-- What the file is once a load ended. It has no bytes where the first line was refused, or memory was, and
-- past the format it opens to the empty map, or where the disk failed to the map of the dump.
abbrev pub LeavesLoaded : ℕ → ℕ → Passed → List ℕ → Result Unit LoadFault → Type 0
LeavesLoaded k names x file (Ok done) = OpensDump k names x file
LeavesLoaded k names x file (Err (why.Line zero)) = length file ≡ 0
LeavesLoaded k names x file (Err (why.Line (suc n))) = OpensEmpty k names file
LeavesLoaded k names x file (Err (why.TooMany n)) = length file ≡ 0
LeavesLoaded k names x file (Err why.NoMemory) = length file ≡ 0
LeavesLoaded k names x file (Err why.Disk) = IsLoadImage k names x file
LeavesLoaded k names x file (Err why.Source) = (length file ≡ 0) ⊎ OpensEmpty k names file

-- What the file is at the end of a load, and each image that a crash may leave meanwhile. Past the ten calls
-- of the format the file is a store. Done, it is the one image that is left.
pub record LeavesLoad (k names : ℕ) (x : Passed) (first now : State) (result : Result Unit LoadFault)
    : Type 0 where
  pub file : LeavesLoaded k names x now.file result
  pub past : first.turn + 10 < now.turn → IsEmptyOrDump k names x now.file
  pub images : Only [] first.may_leave → Leaves first now (IsLoadImage k names x)
  pub rests : OnOk result (Rests now)
