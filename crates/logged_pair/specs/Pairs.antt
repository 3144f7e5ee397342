-- The slot in use of a file whose slots have logs, and the table that is read behind its log.
use Rattle.std.specs.Prelude.{ℕ, ◌+◌, nat_lt, not, true, if◌then◌else◌, List, Result, Ok}
use Rattle.byte_ranges.specs.Lists.{◌>>=◌}
use Rattle.slot_codec.specs.Choice.{Chosen, InUse, SlotRefusal, chosen_in, is_open, records_of, slot_in}
use Rattle.slot_codec.specs.Logs.{behind_log, first_gate, log_end, log_top}
use Rattle.slot_codec.specs.Reading.{number_at}
use Rattle.slot_codec.specs.Rows.{Rows}
use Rattle.slot_codec.specs.Spelling.{slot_at}

-- ---- by gates and heads alone

-- a slot in use, with the sequence behind its log, and where the next entry would stand: 0 where none may
pub record InLog : Type 0 where
  pub in_use : InUse
  pub end : ℕ

-- where the room for the log of a slot ends
abbrev pub top_of : InUse → ℕ
top_of u = log_top u.block.names u.slot

-- where the first gate of a slot's log stands, by the number of records that the slot's header has
abbrev pub first_of : List ℕ → InUse → ℕ
first_of file u = first_gate u.block.names u.slot (number_at file (slot_at u.block.names u.slot + 16))

-- Behind so many entries, which end at a gate. No entry may be appended there while this gate is open: then
-- the log has a fault.
abbrev pub behind_entries : List ℕ → InUse → ℕ × ℕ → InLog
behind_entries file u ends = record {
  in_use = record u { sequence = u.sequence + ends.0 };
  end = if is_open file ends.1 then 0 else ends.1;
}

-- the slot in use with its log; where the first gate would not stand below the top, the slot has none
abbrev pub log_of : List ℕ → InUse → InLog
log_of file u =
    if not (nat_lt (first_of file u) (top_of u)) then record { in_use = u; end = 0 } else
    behind_entries file u (log_end file (top_of u) (first_of file u))

-- the slot in use of a file whose slots have logs, or the first refusal
abbrev pub in_log : List ℕ → Result InLog SlotRefusal
in_log file = slot_in true file >>= λ u. Ok (log_of file u)

-- ---- by what is read

-- a table of such a file: its slot, the header behind the log, and the records by their names
pub record LoggedTable : Type 0 where
  pub chosen : Chosen
  pub rows : Rows

-- the table of a file, or the first refusal
unfoldable pub logged_in : List ℕ → Result LoggedTable SlotRefusal
logged_in file =
    chosen_in true file >>= λ c.
    records_of file c >>= λ records.
    behind_log file c records >>= λ x.
    Ok (record { chosen = record c { header = x.header }; rows = x.rows })
