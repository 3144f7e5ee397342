-- The items of an entry's parts: how long each is, what it makes of a table on its way through the entry, and
-- where a table in the making stands on that way.
use Rattle.std.specs.Prelude.{◌≡◌, ℕ, ◌*◌, ◌<◌, ◌≤◌, Bool, true, false, IsTrue, List, Result, Ok}
use Rattle.std.specs.FinMap as fin
use Rattle.byte_ranges.specs.Lists.{◌>>=◌}
use Rattle.slot_codec.specs.Choice.{SlotRefusal}
use Rattle.slot_codec.specs.Items.{read_items}
use Rattle.slot_codec.specs.Logs.{Given, cell_step, gap_step, gone_step, move_step, put_step}
use Rattle.slot_codec.specs.Reading.{all_in_range}
use Rattle.slot_codec.specs.Rows.{Rows}
use Rattle.slot_codec.specs.declared.codec.CodecFault.{CodecFault}
use Rattle.slot_codec.specs.declared.codec.Header.{Header}
use Rattle.extent_table.specs.Extents.{Extents, IsTable}
use Rattle.reopen.specs.Logs.{KeepsLoad, rows_in}
use Rattle.reopen.specs.declared.items.Items.{Items}
use Rattle.reopen.specs.declared.items.Part.{Part}
use Rattle.reopen.specs.declared.items.Part.TheVariants as part
use Rattle.reopen.specs.declared.items.Progress.{Progress}

-- how many bytes an item of a part has
abbrev pub item_len : Part → ℕ
item_len part.Cells = 16
item_len part.Moved = 16
item_len part.Gone = 64
item_len part.Puts = 112
item_len part.Gap = 1

-- how many bytes items of a part have together
abbrev pub items_len : Items → ℕ
items_len items = item_len items.part * items.count

-- a table on its way through an entry: its header and the least number that the next cell may have, and its
-- records by their names
pub record Passing : Type 0 where
  pub given : Given
  pub rows : Rows

-- what an item of a part makes of it
abbrev pub item_step : Part → Passing → List ℕ → Result Passing CodecFault
item_step part.Cells p bytes = cell_step p.given bytes >>= λ given. Ok (record p { given = given })
item_step part.Moved p bytes = move_step p.rows bytes >>= λ rows. Ok (record p { rows = rows })
item_step part.Gone p bytes = gone_step p.rows bytes >>= λ rows. Ok (record p { rows = rows })
item_step part.Puts p bytes = put_step p.rows bytes >>= λ rows. Ok (record p { rows = rows })
item_step part.Gap p bytes = gap_step tt bytes >>= λ none. Ok p

-- what the items of a part make of it, or the first fault, at its item
abbrev pub read_part : Items → List ℕ → Passing → Result Passing SlotRefusal
read_part items file p =
    read_items (item_step items.part) (item_len items.part) items.count file items.at p

-- the header of a table in the making, and the least number of its next cell
abbrev pub given : ℕ → Header → Given
given next header = record { next = next; header = header }

-- the records are those of a table in the making, or more than a slot has room for
abbrev pub AreRows : ℕ → Bool → Rows → Extents → Type 0
AreRows cap false rows load = rows ≡ rows_in load
AreRows cap true rows load = cap < fin.len rows

-- only records that are put can be more than there is room for
abbrev pub may_be_over : Part → Bool
may_be_over part.Cells = false
may_be_over part.Moved = false
may_be_over part.Gone = false
may_be_over part.Puts = true
may_be_over part.Gap = true

-- a header and a table in the making stand where a table is on its way through a part of an entry
pub record Stands (p : Part) (cap : ℕ) (passing : Passing) (progress : Progress) (header : Header)
    (load : Extents) : Type 0
  where
    pub at_cell : passing.given ≡ given progress.next header
    pub rows : AreRows cap progress.over passing.rows load
    pub clear : may_be_over p ≡ false → progress.over ≡ false

-- what was expected is read, and a header and a table in the making stand there
pub record Taken {E : Type 0} (p : Part) (cap : ℕ) (expected : Result Passing E) (progress : Progress)
    (header : Header) (load : Extents) : Type 0
  where
    pub passing : Passing
    pub read : expected ≡ Ok passing
    pub stands : Stands p cap passing progress header load

-- two headers differ in their cells at most
abbrev pub OnlyCells : Header → Header → Type 0
OnlyCells old new = new ≡ record old { caps = new.caps; used = new.used }

-- No item changes more of a header than its cells, nor what a log doesn't change of a table in the making,
-- and what was in range, or not too much, still is.
pub record KeepsMaking (cap : ℕ) (before now : Header) (old new : Extents) : Type 0 where
  pub cells : OnlyCells before now
  pub ranges : IsTrue (all_in_range before) → IsTrue (all_in_range now)
  pub load : KeepsLoad old new
  pub table : IsTable old → IsTable new
  pub few : fin.len old.now ≤ cap → fin.len new.now ≤ cap
