-- The texts of `check` and `map`, against the bytes of the file.
use Rattle.std.specs.Prelude.{◌≡◌, ◌⊎◌, ℕ, ◌-◌, ◌≤◌, nat_lt, if◌then◌else◌, List, [], ◌++◌, length, take, flat_map, slice_index, codes, Result, Ok, OnOk, OnErr}
use Rattle.byte_ranges.specs.Lists.{below}
use Rattle.size_class.specs.Classes.{width}
use Rattle.size_class.specs.declared.TheConstants.{CLASSES, SIZE_MAX}
use Rattle.slot_codec.specs.Choice as choice
use Rattle.slot_codec.specs.Spelling.{head_len}
use Rattle.slot_codec.specs.declared.codec.Header.{Header}
use Rattle.slot_codec.specs.declared.codec.Kind.{Kind}
use Rattle.slot_codec.specs.declared.codec.Kind.TheVariants.{Settled, Moving}
use Rattle.slot_codec.specs.declared.codec.Record.{Record}
use Rattle.segment_layout.specs.Books.{Book}
use Rattle.segment_layout.specs.Shapes.{buffer_of, taken_in}
use Rattle.map_model.specs.Maps.{Map}
use Rattle.table_rules.specs.Opening.{ReadsBy}
use Rattle.table_rules.specs.Tables.{size_sum}
use Rattle.command_face.specs.Refusing.{IsNotRead}
use Rattle.command_face.specs.declared.stop.StopReason.{StopReason}
use Rattle.command_face.specs.Lines.{numbered}

-- ---- check

abbrev pub kind_text : Kind → List ℕ
kind_text Settled = codes " still\n"
kind_text Moving = codes " moving\n"

-- how many bytes of a file of this length lie behind its head
abbrev pub data_of : choice.SlotTable → ℕ → ℕ
data_of t len = len - head_len t.chosen.block.names

-- The one line of `check`, of a table and the length of its file: K NAMES COUNT BYTES DATA SEQUENCE KIND.
abbrev pub check_text : choice.SlotTable → ℕ → List ℕ
check_text t len = codes "store" ++ numbered t.chosen.block.k ++ numbered t.chosen.block.names
    ++ numbered (length t.records) ++ numbered (size_sum t.records) ++ numbered (data_of t len)
    ++ numbered t.chosen.header.sequence ++ kind_text t.chosen.header.kind

-- ---- map

-- of a moving table its boundary, wall and slack
abbrev pub moving_line : Header → Kind → List ℕ
moving_line h Settled = []
moving_line h Moving = codes "moving" ++ numbered h.boundary ++ numbered h.wall ++ numbered h.slack
    ++ codes "\n"

-- of a class with a capacity its number, its capacity, that of its buffer, and what is taken of the buffer
abbrev pub class_line : ℕ → Header → ℕ → List ℕ
class_line k h c =
    if nat_lt 0 (slice_index h.caps c)
    then codes "class" ++ numbered c ++ numbered (slice_index h.caps c)
    ++ numbered (buffer_of k (slice_index h.caps c)) ++ numbered (taken_in h.used c) ++ codes "\n"
    else []

-- of a record its name, its place and its size
abbrev pub object_line : Record → List ℕ
object_line r = codes "object " ++ r.name ++ numbered r.place ++ numbered r.size ++ codes "\n"

-- The lines of `map`: those of the flush that was interrupted, of the classes, and of the records in order.
abbrev pub map_text : choice.SlotTable → List ℕ
map_text t = moving_line t.chosen.header t.chosen.header.kind
    ++ flat_map (class_line t.chosen.block.k t.chosen.header) (below width)
    ++ flat_map object_line t.records

-- ---- how lines are put

-- What was put and what is gathered since: these bytes came behind it, and as much was put as before or more;
-- or where the sink failed, a front of that was put.
pub record Gathers (put piece put_after piece_after bytes : List ℕ)
    (result : Result (Unit {0}) StopReason) : Type 0
  where
    pub all : OnOk result ((put_after ++ piece_after ≡ put ++ (piece ++ bytes))
        × (length put ≤ length put_after))
    pub front : OnErr result ((n : ℕ) × (n ≤ length (piece ++ bytes))
        × (put_after ≡ put ++ take n (piece ++ bytes)))

-- ---- the answers

-- The file is read by its mark to a table, and the answer is a text of that table and of the file's length.
pub record IsToldOf (text : choice.SlotTable → ℕ
    → List ℕ) (file : List ℕ) (answer : Result (List ℕ) StopReason)
    : Type 0 where
  pub table : choice.SlotTable
  pub map : Map
  pub book : Book
  pub reads : ReadsBy CLASSES SIZE_MAX table file map book
  pub same : answer ≡ Ok (text table (length file))

-- what a command is to answer that puts such a text, of a file whose slots have logs or have none
abbrev pub IsTold : (choice.SlotTable → ℕ → List ℕ) → List ℕ → Result (List ℕ) StopReason → Type 0
IsTold text file answer = IsToldOf text file answer ⊎ IsNotRead file answer

-- what `check` is to answer, and what `map` is
abbrev pub IsChecked : List ℕ → Result (List ℕ) StopReason → Type 0
IsChecked file answer = IsTold check_text file answer

abbrev pub IsMapped : List ℕ → Result (List ℕ) StopReason → Type 0
IsMapped file answer = IsTold (λ t len. map_text t) file answer
