-- What a file stands for before the save of a load and after it.
use Rattle.std.specs.Prelude.{◌≡◌, ◌⊎◌, ◌+◌, ◌<◌, ◌≤◌, ◌^◌, ◌++◌, ℕ, List, [], None, Result, Ok, Err, IsTrue, length}
use Rattle.std.specs.FinMap as fin
use Rattle.std.specs.FinSet as set
use Rattle.disk_face.specs.Counts.{counted}
use Rattle.disk_face.specs.States.{State}
use Rattle.size_class.specs.Classes.{zero_grid, zero_row}
use Rattle.size_class.specs.declared.TheConstants.{CLASSES, SIZE_MAX}
use Rattle.slot_codec.specs.Choice as choice
use Rattle.slot_codec.specs.Spelling.{head_len}
use Rattle.slot_codec.specs.declared.codec.Kind.TheVariants.{Settled}
use Rattle.slot_pair.specs.Formats.{HasFirstTable, IsNoStore, block_for}
use Rattle.slot_pair.specs.Saves.{IsAlikeBelow, save_calls}
use Rattle.map_model.specs.Maps.{Map}
use Rattle.map_model.specs.Weights.{Entry}
use Rattle.segment_layout.specs.Books.{Book}
use Rattle.segment_layout.specs.Layouts.{caps_of, divisor_of, grid_of}
use Rattle.segment_layout.specs.Shapes.{end_of}
use Rattle.table_rules.specs.Opening.{OpensBy}
use Rattle.extent_table.specs.Extents.{Extents, records_of}
use Rattle.placement_model.specs.Reads.{read_at}
use Rattle.dump_stream.specs.Heads.{volumes_of_head}
use Rattle.dump_stream.specs.Dumps.{objects_text}
use Rattle.dump_stream.specs.Loading.{AllFollow, NoneFollows, filled_by}
use Rattle.dump_stream.specs.Placing.{IsPlacing}
use Rattle.load_stream.specs.declared.fault.LoadFault.{LoadFault}
use Rattle.load_stream.specs.declared.fault.LoadFault.TheVariants as why
use Rattle.load_stream.specs.declared.plan.Plan.{Plan}
use Rattle.load_stream.specs.Standing.{StandInOrder}
use Rattle.load_stream.specs.Steps.{Passed, object_calls}

-- the book of a store without names
abbrev pub empty_book : Book
empty_book = record { caps = zero_row; grid = zero_grid; buffered = set.empty; digests = None }

-- the book of objects that fill these capacities, with nothing in buffers
abbrev pub laid_with : List ℕ → Book
laid_with caps = record { caps = caps; grid = zero_grid; buffered = set.empty; digests = None }

-- An image opens to this map and this book by a settled table, and is made for this divisor and so many
-- names. The table is the format's checkpoint, of sequence 1, or the one that a save makes after it.
pub record OpensFor (k names : ℕ) (image : List ℕ) (m : Map) (b : Book) : Type 0 where
  pub table : choice.SlotTable
  pub made_for : table.chosen.block ≡ block_for k names
  pub settled : table.chosen.header.kind ≡ Settled
  pub low : table.chosen.header.sequence ≤ 2
  pub opens : OpensBy CLASSES SIZE_MAX table image m b

-- the file opens to the empty map
abbrev pub OpensEmpty : ℕ → ℕ → List ℕ → Type 0
OpensEmpty k names image = OpensFor k names image fin.empty empty_book

-- an image opens to what a file gives at the places of a table, by that table, and is as long as the file
pub record OpensLaid (k names : ℕ) (caps : List ℕ) (e : Extents) (file image : List ℕ) : Type 0 where
  pub opens : OpensFor k names image (read_at (head_len names) file e.now) (laid_with caps)
  pub same_records : opens.table.records ≡ records_of e.now
  pub same_length : length image ≡ length file

-- The objects of a dump fill each class, stand where they go, and the file has the table of an empty store
-- beside them.
pub record IsLaidBeside (k names : ℕ) (p : Plan) (e : Extents) (file : List ℕ) : Type 0 where
  pub objects : List Entry
  pub placing : IsPlacing SIZE_MAX k (caps_of p.layout) objects e.now
  pub filled : filled_by objects ≡ caps_of p.layout
  pub first : HasFirstTable k names file
  pub long : head_len names + end_of k (caps_of p.layout) ≡ length file

-- an image has the table of an empty store, and is like a file below the data part
pub record IsEmptyLike (k names : ℕ) (file image : List ℕ) : Type 0 where
  pub first : HasFirstTable k names image
  pub alike : IsAlikeBelow (head_len names) file image

-- an image opens to the empty map, or to what a file gives at the places of a table
abbrev pub IsEmptyOrLaid : ℕ → ℕ → Plan → Extents → List ℕ → List ℕ → Type 0
IsEmptyOrLaid k names p e file image = OpensEmpty k names image
    ⊎ OpensLaid k names (caps_of p.layout) e file image

-- ---- all objects

-- A map was read of an input that has nothing left: its objects are as many as the first line told, each may
-- stand behind those before it, and they fill each class.
pub record MapRead (p : Plan) (x : Passed) (m : Map) : Type 0 where
  pub count : length (fin.entries m) ≡ p.head.count
  pub follow : AllFollow SIZE_MAX (caps_of p.layout) (fin.entries m)
  pub filled : filled_by (fin.entries m) ≡ caps_of p.layout
  pub whole : IsTrue x.tells → x.before ≡ objects_text (fin.entries m)
  pub ended : IsTrue x.tells → x.left ≡ []

-- An image opens to a map that was read, with nothing in buffers and each object behind the earlier ones of
-- its class, and ends with its layout.
pub record OpensRead (k names : ℕ) (p : Plan) (x : Passed) (image : List ℕ) : Type 0 where
  pub objects : Map
  pub read : MapRead p x objects
  pub opens : OpensFor k names image objects (laid_with (caps_of p.layout))
  pub places : StandInOrder k (caps_of p.layout) (fin.entries objects) opens.table.records
  pub ends : length image ≡ head_len names + end_of k (caps_of p.layout)

-- The objects of a dump stop at this number, from 1. All before it may stand there. It is due and isn't
-- there, or none is due any more, and a volume isn't filled or a rest follows.
pub record StopsBody (p : Plan) (input : List ℕ) (number : ℕ) : Type 0 where
  pub objects : List Entry
  pub rest : List ℕ
  pub same_number : number ≡ length objects + 1
  pub few : length objects ≤ p.head.count
  pub follow : AllFollow SIZE_MAX (caps_of p.layout) objects
  pub whole : input ≡ objects_text objects ++ rest
  pub due : length objects < p.head.count → NoneFollows SIZE_MAX (caps_of p.layout) objects rest
  pub ended : length objects ≡ p.head.count → filled_by objects ≡ caps_of p.layout → rest ≡ [] → ⊥

-- What the file stands for once a load ended past the format: the map that was read; at a fault the empty
-- map, or that map too where the disk failed.
abbrev pub LeavesRead : ℕ → ℕ → Plan → Passed → List ℕ → Result Unit LoadFault → Type 0
LeavesRead k names p x file (Ok done) = OpensRead k names p x file
LeavesRead k names p x file (Err why.Disk) = OpensEmpty k names file ⊎ OpensRead k names p x file
LeavesRead k names p x file (Err _) = OpensEmpty k names file

-- an image opens to the empty map, or to a map that was read
abbrev pub IsEmptyOrRead : ℕ → ℕ → Plan → Passed → List ℕ → Type 0
IsEmptyOrRead k names p x image = OpensEmpty k names image ⊎ OpensRead k names p x image

-- an image is no store, or opens to the empty map, or to a map that was read
abbrev pub IsNoneOrRead : ℕ → ℕ → Plan → Passed → List ℕ → Type 0
IsNoneOrRead k names p x image = IsNoStore image ⊎ IsEmptyOrRead k names p x image

-- The same of a load that began with the format, where the disk may have failed too.
abbrev pub LeavesNew : ℕ → ℕ → Plan → Passed → List ℕ → Result Unit LoadFault → Type 0
LeavesNew k names p x file (Ok done) = OpensRead k names p x file
LeavesNew k names p x file (Err why.Disk) = IsNoneOrRead k names p x file
LeavesNew k names p x file (Err _) = OpensEmpty k names file

-- The objects of a dump were read to the end of the input: as many as the first line told, and they fill each
-- class. To write them and save their table took so many changing calls beside `more`.
pub record ReadsBody (p : Plan) (more : ℕ) (x : Passed) (first now : State) : Type 0 where
  pub objects : List Entry
  pub count : length objects ≡ p.head.count
  pub follow : AllFollow SIZE_MAX (caps_of p.layout) objects
  pub filled : filled_by objects ≡ caps_of p.layout
  pub whole : IsTrue x.tells → x.before ≡ objects_text objects
  pub ended : IsTrue x.tells → x.left ≡ []
  pub made : now.turn ≡ counted first.turn (more + object_calls objects + save_calls (length objects))

-- The plan is for a file with these numbers: an empty grid, the volumes that the first line told, and objects
-- from the end of the head on.
pub record IsPlanFor (k names : ℕ) (p : Plan) : Type 0 where
  pub divisor : divisor_of p.layout ≡ k
  pub grid : grid_of p.layout ≡ zero_grid
  pub caps : caps_of p.layout ≡ volumes_of_head p.head
  pub base : p.base ≡ head_len names
  pub low : p.base < 2 ^ 62
  pub end : end_of (divisor_of p.layout) (caps_of p.layout) < 2 ^ 47
  pub few : p.head.count ≤ names
