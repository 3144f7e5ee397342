-- The steps of a load: the next object, where it goes, and what was written of it.
use Rattle.std.specs.Prelude.{◌≡◌, ℕ, ◌+◌, ◌<◌, ◌≤◌, ◌^◌, true, Bool, List, ◌∷◌, ◌++◌, [], Option, Some, None, IsTrue, length, slice_index, sum, sum_by, vec_len}
use Rattle.std.specs.FinMap as fin
use Rattle.byte_ranges.specs.Ranges.{overwritten}
use Rattle.disk_face.specs.Counts.{counted}
use Rattle.disk_face.specs.Frames.{Asks}
use Rattle.disk_face.specs.States.{State}
use Rattle.size_class.specs.Classes.{class_of, zero_row}
use Rattle.size_class.specs.Rows.{cells_of}
use Rattle.size_class.specs.declared.TheConstants.{SIZE_MAX}
use Rattle.slot_codec.specs.Choice.{rises}
use Rattle.slot_codec.specs.Names.{IsName}
use Rattle.map_model.specs.Weights.{Entry}
use Rattle.segment_layout.specs.Books.{volumes_of_sizes}
use Rattle.segment_layout.specs.Layouts.{caps_of, divisor_of}
use Rattle.segment_layout.specs.Shapes.{end_of}
use Rattle.extent_table.specs.declared.spot.Spot.{Spot}
use Rattle.extent_table.specs.Extents.{IsTable, records_of}
use Rattle.placement_model.specs.Orders.{IsUpTo}
use Rattle.placement_model.specs.Reads.{read_at}
use Rattle.data_area.specs.Pieces.{HasMade, pieces}
use Rattle.dump_stream.specs.Dumps.{object_text, objects_text}
use Rattle.dump_stream.specs.Loading.{AllFollow, NoneFollows, filled_by, last_name}
use Rattle.dump_stream.specs.Dumping.{AreSizes}
use Rattle.dump_stream.specs.Placing.{IsPlacing, spot_at}
use Rattle.load_stream.specs.declared.plan.Plan.{Plan}
use Rattle.load_stream.specs.declared.plan.SoFar.{SoFar}
use Rattle.load_stream.specs.Standing.{StandInOrder}
use Rattle.load_stream.specs.Weights.{objects_weight, write_weight}

-- with an object of this size, its class has no more bytes than its volume
abbrev pub HasRoom : List ℕ → List ℕ → ℕ → Type 0
HasRoom volumes filled size = 0 < size
    → slice_index filled (class_of size) + size ≤ slice_index volumes (class_of size)

-- An object may stand behind others, of which this is the last name, and which fill this much of each class:
-- its name is one and greater, it isn't too long, and its class has room for it.
pub record StandsNext (last : Option (List ℕ)) (volumes filled name : List ℕ) (size : ℕ) : Type 0 where
  pub named : IsName name
  pub rises : rises last name ≡ true
  pub small : size ≤ SIZE_MAX
  pub room : HasRoom volumes filled size

-- no object that may stand there stands in front of the input
abbrev pub NoneStands : Option (List ℕ) → List ℕ → List ℕ → List ℕ → Type 0
NoneStands last volumes filled input = (e : Entry) (behind : List ℕ)
    → StandsNext last volumes filled e.0 (length e.1) → input ≡ object_text e ++ behind → ⊥

-- no text of an object with a name and of less than 2^32 bytes stands in front of the input
abbrev pub HasNoObject : List ℕ → Type 0
HasNoObject input = (e : Entry) (behind : List ℕ) → IsName e.0 → length e.1 < 4294967296
    → input ≡ object_text e ++ behind → ⊥

-- The first bytes of an object, so many, were read of an input, and stand in the file from a position on.
pub record WritesObject (told : Type 0) (at done : ℕ) (before left : List ℕ) (first now : State) : Type 0
  where
    pub object : List ℕ
    pub long : length object ≡ done
    pub whole : told → before ≡ object ++ left
    pub written : IsTrue first.tells → now.file ≡ overwritten first.file at object

-- ---- one object

-- where an object goes
abbrev pub spot_of : Plan → SoFar → Entry → Spot
spot_of p old e = spot_at (divisor_of p.layout) (caps_of p.layout) (cells_of old.filled) (length e.1)

-- What a step read: whether the source tells, and what was left of the input before it and after it.
pub record Passed : Type 0 where
  pub tells : Bool
  pub before : List ℕ
  pub left : List ℕ

abbrev pub passed : Bool → List ℕ → List ℕ → Passed
passed tells before left = record { tells = tells; before = before; left = left }

-- The layout ends below 2^47, and where the file is told it reaches to there.
pub record FitsFile (p : Plan) (d : State) : Type 0 where
  pub base : p.base < 2 ^ 62
  pub end : end_of (divisor_of p.layout) (caps_of p.layout) < 2 ^ 47
  pub long : IsTrue d.tells → p.base + end_of (divisor_of p.layout) (caps_of p.layout) ≤ length d.file

-- There is room for one more name behind the last, and the buffer is whole.
pub record HasRoomForOne (s : SoFar) : Type 0 where
  pub few : fin.len s.load.now < s.load.names
  pub upto : IsUpTo s.last s.load.now
  pub buf : vec_len s.buf ≡ 65536

-- the table has room for as many names as before, and the buffer is as long
pub record KeepsRoom (old new : SoFar) : Type 0 where
  pub table : IsTable new.load
  pub names : new.load.names ≡ old.load.names
  pub buf : vec_len new.buf ≡ vec_len old.buf

-- The next object was read, and its bytes stand where the object goes: the table has its name with this spot,
-- and it fills that much more of its class.
pub record LoadsObject (p : Plan) (old new : SoFar) (x : Passed) (first now : State) : Type 0 where
  pub object : Entry
  pub stands : StandsNext old.last (caps_of p.layout) (cells_of old.filled) object.0 (length object.1)
  pub whole : IsTrue x.tells → x.before ≡ object_text object ++ x.left
  pub written : IsTrue first.tells → now.file ≡ overwritten first.file
      (p.base + (spot_of p old object).place) object.1
  pub entered : new.load.now ≡ fin.insert old.load.now object.0 (spot_of p old object)
  pub named : new.last ≡ Some object.0
  pub fills : (sizes : List ℕ) → length sizes < 65536 → AreSizes SIZE_MAX sizes
      → cells_of old.filled ≡ volumes_of_sizes sizes
      → cells_of new.filled ≡ volumes_of_sizes (sizes ++ length object.1 ∷ [])
  pub made : HasMade first.turn now.turn 65536 (length object.1) (length object.1)
  pub asks : Asks (write_weight 65536 (length object.1)) 0 first now

-- At most so much was asked as the writes of one object ask, of a size for which its class has room.
pub record AsksForOne (volumes filled : List ℕ) (first now : State) : Type 0 where
  pub size : ℕ
  pub room : HasRoom volumes filled size
  pub asks : Asks (write_weight 65536 size) 0 first now

-- ---- the objects so far

-- the changing calls that writing objects takes
abbrev pub object_calls : List Entry → ℕ
object_calls es = sum_by (λ e. pieces 65536 (length e.1)) es

-- Of a dump the first objects were read, so many. Each may stand behind those before it, they stand where
-- they go, one behind another, and the file gives them there.
pub record LoadsTo (p : Plan) (now : SoFar) (x : Passed) (count : ℕ) (first state : State) : Type 0 where
  pub objects : List Entry
  pub same_count : length objects ≡ count
  pub follow : AllFollow SIZE_MAX (caps_of p.layout) objects
  pub placing : IsPlacing SIZE_MAX (divisor_of p.layout) (caps_of p.layout) objects now.load.now
  pub places : StandInOrder (divisor_of p.layout) (caps_of p.layout) objects (records_of now.load.now)
  pub filled : cells_of now.filled ≡ filled_by objects
  pub last : now.last ≡ last_name objects
  pub whole : IsTrue x.tells → x.before ≡ objects_text objects ++ x.left
  pub read : IsTrue first.tells → fin.entries (read_at p.base state.file now.load.now) ≡ objects
  pub made : first.turn < 2 ^ 64 → state.turn ≡ counted first.turn (object_calls objects)
  pub asks : Asks (objects_weight count (sum (filled_by objects))) 0 first state

-- All objects that the first line told were read, they fill each class, and nothing is left of the input.
pub record LoadsAll (p : Plan) (now : SoFar) (x : Passed) (first state : State) : Type 0 where
  pub to : LoadsTo p now x p.head.count first state
  pub whole : cells_of now.filled ≡ caps_of p.layout
  pub ended : IsTrue x.tells → x.left ≡ []

-- The objects of a dump stop in front of this number, from 1: those before it may stand there, and it is due.
pub record StopsIn (volumes : List ℕ) (count : ℕ) (input : List ℕ) (number : ℕ) : Type 0 where
  pub objects : List Entry
  pub rest : List ℕ
  pub same_number : number ≡ length objects + 1
  pub due : length objects < count
  pub follow : AllFollow SIZE_MAX volumes objects
  pub whole : input ≡ objects_text objects ++ rest
  pub none : NoneFollows SIZE_MAX volumes objects rest

-- no object was loaded yet, and the buffer is whole
pub record IsStart (s : SoFar) : Type 0 where
  pub empty : s.load.now ≡ fin.empty
  pub table : IsTable s.load
  pub none : s.last ≡ None
  pub zero : cells_of s.filled ≡ zero_row
  pub buf : vec_len s.buf ≡ 65536
