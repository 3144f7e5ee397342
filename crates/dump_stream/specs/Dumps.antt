-- The dump of a map: its first line, and then a put of each object, by rising name.
use Rattle.std.specs.Prelude.{◌≡◌, ℕ, ◌≤◌, List, ◌++◌, Some, codes, flat_map, length}
use Rattle.std.specs.List.{AllByRecursion}
use Rattle.std.specs.FinMap as fin
use Rattle.slot_codec.specs.Names.{IsName}
use Rattle.map_model.specs.Maps.{Map}
use Rattle.map_model.specs.Requests as request
use Rattle.map_model.specs.Requests.{Request}
use Rattle.map_model.specs.Weights.{Entry}
use Rattle.segment_layout.specs.Books.{volumes}
use Rattle.ask_text.specs.Inputs.{request_text}
use Rattle.dump_stream.specs.Heads.{head_line}

-- the put of an object
abbrev pub put_of : Entry → Request
put_of e = request.change (record { name = e.0; object = Some e.1 })

abbrev pub object_text : Entry → List ℕ
object_text e = request_text (put_of e)

-- the texts of objects, one after another
abbrev pub objects_text : List Entry → List ℕ
objects_text es = flat_map object_text es

-- the first line of a map's dump, with its newline
abbrev pub dump_line : ℕ → Map → List ℕ
dump_line C m = head_line C (fin.len m) (volumes m) ++ codes "\n"

abbrev pub dump_text : ℕ → Map → List ℕ
dump_text C m = dump_line C m ++ objects_text (fin.entries m)

-- an object that a file may have: its name is one, and it isn't too long
pub record IsObject (size_max : ℕ) (e : Entry) : Type 0 where
  pub named : IsName e.0
  pub small : length e.1 ≤ size_max

-- A map that a file may have: no more names than any file has room for, and such objects.
pub record CanDump (size_max : ℕ) (m : Map) : Type 0 where
  pub few : fin.len m ≤ 65536
  pub each : AllByRecursion (IsObject size_max) (fin.entries m)

-- the text is the dump of this map
pub record IsDumpOf (C size_max : ℕ) (m : Map) (text : List ℕ) : Type 0 where
  pub can : CanDump size_max m
  pub same : text ≡ dump_text C m
