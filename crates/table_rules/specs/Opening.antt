-- What a whole file stands for.
use Rattle.std.specs.Prelude.{◌≡◌, ◌⊎◌, ℕ, ◌-◌, ◌≤◌, Bool, false, List, length, slice_index, Ok}
use Rattle.size_class.specs.Classes.{cell}
use Rattle.slot_codec.specs.Spelling.{head_len}
use Rattle.slot_codec.specs.Choice as choice
use Rattle.slot_codec.specs.Logs.{table_in}
use Rattle.slot_codec.specs.Reading.{is_logged}
use Rattle.map_model.specs.Maps.{Map}
use Rattle.segment_layout.specs.Books.{Book, with_digests}
use Rattle.table_rules.specs.Tables.{TableInLayout, map_of, book_of}
use Rattle.table_rules.specs.Rules.{IsValid}

-- the table of a file, as its rules see it
abbrev pub placed_table : ℕ → ℕ → List ℕ → choice.SlotTable → TableInLayout
placed_table classes size_max file t =
    record {
      classes = classes;
      size_max = size_max;
      k = t.chosen.block.k;
      data_len = length file - head_len t.chosen.block.names;
      header = t.chosen.header;
      records = t.records;
    }

-- No refusal applies to a file with this table, whose slots have logs or have none, and it stands for this map
-- and this book.
pub record OpensIn (logged : Bool) (classes size_max : ℕ) (t : choice.SlotTable) (file : List ℕ) (m : Map)
    (b : Book) : Type 0
  where
    pub read : table_in logged file ≡ Ok t
    pub valid : IsValid (placed_table classes size_max file t)
    pub same_map : m ≡ map_of (head_len t.chosen.block.names) file t.records
    pub same_book : b ≡ with_digests t.digests (book_of (placed_table classes size_max file t))

-- the same of a file whose slots have no logs, and of a file by its mark
abbrev pub OpensBy : ℕ → ℕ → choice.SlotTable → List ℕ → Map → Book → Type 0
OpensBy = OpensIn false

abbrev pub ReadsBy : ℕ → ℕ → choice.SlotTable → List ℕ → Map → Book → Type 0
ReadsBy classes size_max t file m b = OpensIn (is_logged file) classes size_max t file m b

-- The file opens to this map and this book.
pub record Opens (classes size_max : ℕ) (file : List ℕ) (m : Map) (b : Book) : Type 0 where
  pub table : choice.SlotTable
  pub opens : OpensBy classes size_max table file m b

-- The file is read to this map and this book, whether its slots have logs or have none.
pub record Reads (classes size_max : ℕ) (file : List ℕ) (m : Map) (b : Book) : Type 0 where
  pub table : choice.SlotTable
  pub opens : ReadsBy classes size_max table file m b

-- A file opens under the rules of the first programs, whose objects had at most 2^20 bytes and so one of 21
-- classes.
abbrev pub OpensAsBefore : List ℕ → Map → Book → Type 0
OpensAsBefore file m b = Opens 21 1048576 file m b

-- A book has no capacity of the classes from one on, and no entry of them or in their buffers.
pub record HasNoneFrom (first : ℕ) (b : Book) : Type 0 where
  pub caps : (c : ℕ) → first ≤ c → slice_index b.caps c ≡ 0
  pub entries : (j c : ℕ) → (first ≤ j) ⊎ (first ≤ c) → cell b.grid j c ≡ 0
