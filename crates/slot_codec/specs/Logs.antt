-- The log of a slot: entries one behind another, each with a gate in front, up to the first closed gate. No
-- file of the program has one yet.
use Rattle.std.specs.Prelude.{◌≡◌, ℕ, zero, suc, ◌+◌, ◌-◌, ◌*◌, ◌/◌, ◌^◌, ◌<◌, ◌≤◌, ◌==◌, ◌&&◌, ◌||◌, nat_le, nat_lt, Bool, true, not, if◌then◌else◌, List, length, Result, Ok, Err}
use Rattle.std.specs.FinMap as fin
use Rattle.byte_ranges.specs.Ranges.{SameWithin, bytes_at}
use Rattle.byte_ranges.specs.Lists.{◌>>=◌}
use Rattle.slot_codec.specs.Cells.{header_cells, with_cell, without_cells}
use Rattle.slot_codec.specs.Choice.{Chosen, SlotRefusal, SlotTable, chosen_in, codec, is_open, placed_at, records_at, records_of, table_of, table_with}
use Rattle.slot_codec.specs.Entries.{Entry, IsEntryHead, entry_len, entry_room, gone_from, moved_from, pair_at, puts_from, read_entry_head, up}
use Rattle.slot_codec.specs.Items.{AreItems, after_items, read_items}
use Rattle.slot_codec.specs.Reading.{are_zeros, is_in_range, is_logged, log_worn_from, number_at, read_name, read_record}
use Rattle.slot_codec.specs.Rows.{AreChanges, Rows, changed_rows, moved_row, rows_of, with_row}
use Rattle.slot_codec.specs.Spelling.{cap, gate_at, header_len, slot_at}
use Rattle.slot_codec.specs.declared.entry.EntryHead.{EntryHead}
use Rattle.slot_codec.specs.declared.codec.Header.{Header}
use Rattle.slot_codec.specs.declared.codec.Record.{Record}
use Rattle.slot_codec.specs.declared.codec.CodecFault.{CodecFault}
use Rattle.slot_codec.specs.declared.codec.CodecFault.TheVariants as fault

-- ---- where it stands

-- The first gate of a slot's log stands at the next multiple of 512 behind the records, which have 112 bytes
-- each.
abbrev pub first_gate : ℕ → ℕ → ℕ → ℕ
first_gate names slot count = up (slot_at names slot + header_len + 112 * count)

-- Entries, and the gate behind the last one, stand below the sector of 512 bytes that has the slot's gate.
abbrev pub log_top : ℕ → ℕ → ℕ
log_top names slot = gate_at names slot / 512 * 512

-- ---- what an entry makes of a table

-- a table on its way through a log: its header, and its records by their names
pub record Logged : Type 0 where
  pub header : Header
  pub rows : Rows

-- the header behind an entry's head, before its cells
abbrev pub begun : Header → EntryHead → Header
begun header h = record (without_cells header) {
  kind = h.kind;
  boundary = h.boundary;
  sequence = header.sequence + 1;
  wall = h.wall;
  slack = h.slack;
}

-- a header on its way through an entry's cells, and the least number that the next cell may have
pub record Given : Type 0 where
  pub next : ℕ
  pub header : Header

abbrev pub with_given : Given → ℕ × ℕ → Given
with_given g p = record { next = p.0 + 1; header = with_cell g.header p.0 p.1 }

-- a cell comes behind those before it, and its value isn't 0
pub record IsCell (g : Given) (p : ℕ × ℕ) : Type 0 where
  pub later : g.next ≤ p.0
  pub cell : p.0 < header_cells
  pub some : 0 < p.1
  pub range : p.1 < 2 ^ 48

-- the table behind an entry
abbrev pub after_entry : Logged → Entry → Logged
after_entry x e =
    let rows = changed_rows x.rows e.moved e.gone e.puts in
    let given = after_items with_given (record { next = 0; header = begun x.header e.head }) e.cells in
    record { header = record given.header { count = fin.len rows }; rows = rows }

-- An entry that is read as it is, behind a table in a slot for `cap` records, where the log has `room` bytes.
pub record IsEntry (cap room : ℕ) (x : Logged) (e : Entry) : Type 0 where
  pub head : IsEntryHead cap (fin.len x.rows) room e.head
  pub cells : e.head.cells ≡ length e.cells
  pub moved : e.head.moved ≡ length e.moved
  pub gone : e.head.gone ≡ length e.gone
  pub puts : e.head.puts ≡ length e.puts
  pub fresh : x.header.sequence + 1 < log_worn_from e.head.kind
  pub are_cells : AreItems IsCell with_given (record { next = 0; header = begun x.header e.head }) e.cells
  pub are_changes : AreChanges x.rows e.moved e.gone e.puts
  pub few : fin.len (changed_rows x.rows e.moved e.gone e.puts) ≤ cap

-- ---- reading an entry

-- the cell that 16 bytes say, where it may have at least this number
abbrev pub read_cell : ℕ → List ℕ → Result (ℕ × ℕ) CodecFault
read_cell next bytes =
    let p = pair_at bytes 0 in
    if nat_lt p.0 next || not (nat_lt p.0 header_cells) then Err fault.Order else
    if p.1 == 0 || not (is_in_range p.1) then Err fault.Range else
    Ok p

-- the move that 16 bytes say, of one of so many objects
abbrev pub read_move : ℕ → List ℕ → Result (ℕ × ℕ) CodecFault
read_move count bytes =
    let p = pair_at bytes 0 in
    if not (nat_lt p.0 count) then Err fault.Absent else
    if not (is_in_range p.1) then Err fault.Range else
    Ok p

-- what each item makes of what those before it left
abbrev pub cell_step : Given → List ℕ → Result Given CodecFault
cell_step g bytes = read_cell g.next bytes >>= λ p. Ok (with_given g p)

abbrev pub move_step : Rows → List ℕ → Result Rows CodecFault
move_step rows bytes = read_move (fin.len rows) bytes >>= λ p. Ok (moved_row rows p)

abbrev pub gone_step : Rows → List ℕ → Result Rows CodecFault
gone_step rows bytes = read_name bytes >>= λ name.
    if not (fin.contains_key rows name) then Err fault.Absent else
    Ok (fin.remove rows name)

abbrev pub put_step : Rows → List ℕ → Result Rows CodecFault
put_step rows bytes = read_record 2 bytes >>= λ r. Ok (with_row rows r)

-- a byte of a gap is zero
abbrev pub gap_step : Unit {0} → List ℕ → Result (Unit {0}) CodecFault
gap_step u bytes = if not (are_zeros bytes) then Err fault.Zeros else Ok u

-- the rows that an entry's three lists lead to
abbrev pub read_changes : List ℕ → ℕ → EntryHead → Rows → Result Rows SlotRefusal
read_changes file at h rows =
    read_items move_step 16 h.moved file (at + moved_from h) rows >>= λ moved.
    read_items gone_step 64 h.gone file (at + gone_from h) moved >>= λ left.
    read_items put_step 112 h.puts file (at + puts_from h) left

-- The table behind the entry whose gate stands at a position, or the first fault in the entry: in its head,
-- its cells, moves, names and records, the gap behind it, and then that there are too many names. The log
-- ends below the top.
abbrev pub read_entry : ℕ → ℕ → List ℕ → ℕ → Logged → Result Logged SlotRefusal
read_entry cap top file at x =
    placed_at at (read_entry_head cap (fin.len x.rows) (top - at) (bytes_at file (at + 1) 55)) >>= λ h.
    if nat_le (log_worn_from h.kind) (x.header.sequence + 1) then Err (codec fault.Worn at) else
    (read_items cell_step 16 h.cells file (at + 56) (record { next = 0; header = begun x.header h })
    >>= λ given.
    read_changes file at h x.rows >>= λ rows.
    read_items gap_step 1 (entry_room h - entry_len h) file (at + entry_len h) tt >>= λ none.
    if nat_lt cap (fin.len rows) then Err (codec fault.Count at) else
    Ok (record { header = record given.header { count = fin.len rows }; rows = rows }))

-- ---- the whole log

-- how long the entry at a position says that it is, with its gate: 56 bytes, 16 for each cell and each moved
-- object, 64 for each name that is gone, and 112 for each record put
abbrev pub len_at : List ℕ → ℕ → ℕ
len_at file at = 56 + 16 * (number_at file (at + 8) + number_at file (at + 16))
    + 64 * number_at file (at + 24) + 112 * number_at file (at + 32)

-- its length with the gap behind it: an entry that begins at a multiple of 512 has the next gate at one
abbrev pub room_at : List ℕ → ℕ → ℕ
room_at file at = up (len_at file at)

-- the entry at a position is open, and the next gate stands below the top
abbrev pub goes_on : List ℕ → ℕ → ℕ → Bool
goes_on file top at = is_open file at && nat_lt (at + room_at file at) top

-- What a log leads to from a table on, by what each entry makes of the table before it: the table behind the
-- last open entry, and where the next entry would stand. It goes through at most n entries.
abbrev pub walk : {T : Type 0} → (List ℕ → ℕ → T → T) → ℕ → List ℕ → ℕ → ℕ → T → T × ℕ
walk step zero file top at x = (x, at)
walk step (suc n) file top at x =
    if goes_on file top at then walk step n file top (at + room_at file at) (step file at x) else (x, at)

-- what an entry makes of a table rests on its own bytes and those of the gap behind it alone
abbrev pub IsLocal : {T : Type 0} → (List ℕ → ℕ → T → T) → Type 0
IsLocal {T} step = (a b : List ℕ) (at : ℕ) (x : T) → at + room_at a at ≤ length a
    → at + room_at a at ≤ length b → SameWithin at (at + room_at a at) a b → step a at x ≡ step b at x

-- a table on its way through a log, or the first refusal
abbrev pub Reading : Type 0
Reading = Result Logged SlotRefusal

-- what an entry makes of what was read before it
abbrev pub log_step : ℕ → ℕ → List ℕ → ℕ → Reading → Reading
log_step cap top file at x = x >>= λ y. read_entry cap top file at y

-- A log that was gone through ends at a closed gate; an entry that is open there has a fault.
abbrev pub ends_closed : ℕ → ℕ → List ℕ → Reading × ℕ → Result (Logged × ℕ) SlotRefusal
ends_closed cap top file p =
    p.0 >>= λ y.
    (if is_open file p.1 then read_entry cap top file p.1 y else Ok y) >>= λ z.
    Ok (z, p.1)

-- The table behind a log whose first gate stands at a position, and where the next entry would stand. Each
-- entry takes 512 bytes at least.
unfoldable pub read_log : ℕ → ℕ → List ℕ → ℕ → Logged → Result (Logged × ℕ) SlotRefusal
read_log cap top file at x =
    ends_closed cap top file (walk (log_step cap top) (top / 512) file top at (Ok x))

-- how many entries a log has by its gates and heads alone, and where the next one would stand
unfoldable pub log_end : List ℕ → ℕ → ℕ → ℕ × ℕ
log_end file top at = walk (λ (file : List ℕ) (at n : ℕ). n + 1) (top / 512) file top at 0

-- ---- the table of a file whose slots have logs

-- The table behind the log of a slot with these records, where its first gate stands below the top; the bytes
-- in front of this gate are zeros.
abbrev pub behind_log : List ℕ → Chosen → List Record → Result Logged SlotRefusal
behind_log file c records =
    let names = c.block.names in
    let top = log_top names c.slot in
    let first = first_gate names c.slot c.header.count in
    let end = records_at c + 112 * c.header.count in
    let x : Logged = record { header = c.header; rows = rows_of records } in
    if not (nat_lt first top) then Ok x else
    (read_items gap_step 1 (first - end) file end tt >>= λ none.
    read_log (cap names 3) top file first x >>= λ p.
    Ok p.0)

-- the table of a file whose slots have logs: that behind the log of the slot in use
unfoldable pub logged_table_of : List ℕ → Result SlotTable SlotRefusal
logged_table_of file =
    chosen_in true file >>= λ c.
    records_of file c >>= λ records.
    behind_log file c records >>= λ x.
    Ok (table_with (record c { header = x.header }) (fin.values x.rows))

-- the table of a file whose slots have logs or have none
abbrev pub table_in : Bool → List ℕ → Result SlotTable SlotRefusal
table_in logged file = if logged then logged_table_of file else table_of file

-- the table of a file, by its mark
abbrev pub read_table_of : List ℕ → Result SlotTable SlotRefusal
read_table_of file = table_in (is_logged file) file
