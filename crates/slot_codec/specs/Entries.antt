-- The entry of a slot's log: a gate, a head, and lists of what changed. No file of the program has a log yet.
use Rattle.std.specs.Prelude.{ℕ, ◌+◌, ◌-◌, ◌*◌, ◌/◌, ◌^◌, ◌<◌, ◌≤◌, ◌&&◌, ◌||◌, nat_lt, Bool, not, if◌then◌else◌, List, [], ◌∷◌, ◌++◌, flat_map, slice_index, Result, Ok, Err}
use Rattle.byte_ranges.specs.Ranges.{bytes_at}
use Rattle.slot_codec.specs.Cells.{header_cells}
use Rattle.slot_codec.specs.Names.{name_bytes}
use Rattle.slot_codec.specs.Spelling.{kind_code, number, record_bytes, zeros}
use Rattle.slot_codec.specs.Reading.{are_zeros, is_in_range, kind_of, number_at}
use Rattle.slot_codec.specs.declared.entry.EntryHead.{EntryHead}
use Rattle.slot_codec.specs.declared.codec.Record.{Record}
use Rattle.slot_codec.specs.declared.codec.CodecFault.{CodecFault}
use Rattle.slot_codec.specs.declared.codec.CodecFault.TheVariants as fault

-- the 55 bytes of a head: kind and boundary, five zeros, four counts, the wall and the slack
abbrev pub entry_head_bytes : EntryHead → List ℕ
entry_head_bytes h = (kind_code h.kind ∷ h.boundary ∷ []) ++ zeros 5 ++ number h.cells ++ number h.moved
    ++ number h.gone
    ++ number h.puts ++ number h.wall ++ number h.slack

-- the head that bytes give, whether or not they are refused
abbrev pub entry_head_of : List ℕ → EntryHead
entry_head_of bytes =
    record {
      kind = kind_of (slice_index bytes 0);
      boundary = slice_index bytes 1;
      cells = number_at bytes 7;
      moved = number_at bytes 15;
      gone = number_at bytes 23;
      puts = number_at bytes 31;
      wall = number_at bytes 39;
      slack = number_at bytes 47;
    }

-- an entry has more cells than a header has numbers, moves or takes out more objects than the table before it
-- has, or puts more records than a slot has room for
abbrev pub has_too_many : ℕ → ℕ → EntryHead → Bool
has_too_many cap count h = nat_lt header_cells h.cells || nat_lt count h.moved || nat_lt count h.gone
    || nat_lt cap h.puts

-- the least multiple of 512 that isn't below a number
abbrev pub up : ℕ → ℕ
up n = (n + 511) / 512 * 512

-- how long an entry is, with its gate: 56 bytes, 16 for each cell and each moved object, 64 for each name
-- that is gone, and 112 for each record put
abbrev pub entry_len : EntryHead → ℕ
entry_len h = 56 + 16 * (h.cells + h.moved) + 64 * h.gone + 112 * h.puts

-- its length with the gap behind it: an entry that begins at a multiple of 512 has the next gate at one
abbrev pub entry_room : EntryHead → ℕ
entry_room h = up (entry_len h)

-- What 55 bytes say, or the first fault in them, behind a table of `count` names in a slot for `cap` records.
-- From the entry's gate on the log has `room` bytes, and the gate behind the entry is one of them.
unfoldable pub read_entry_head : ℕ → ℕ → ℕ → List ℕ → Result EntryHead CodecFault
read_entry_head cap count room bytes =
    let h = entry_head_of bytes in
    if nat_lt 1 (slice_index bytes 0) then Err fault.Kind else
    if not (are_zeros (bytes_at bytes 2 5)) then Err fault.Zeros else
    if has_too_many cap count h then Err fault.Count else
    if not (nat_lt (entry_room h) room) then Err fault.Entry else
    if not (is_in_range h.wall && is_in_range h.slack) then Err fault.Range else
    Ok h

-- a head whose spelling is read as it is, behind a table of `count` names in a slot for `cap` records, where
-- the log has `room` bytes
pub record IsEntryHead (cap count room : ℕ) (h : EntryHead) : Type 0 where
  pub boundary : h.boundary < 256
  pub cells : h.cells ≤ header_cells
  pub moved : h.moved ≤ count
  pub gone : h.gone ≤ count
  pub puts : h.puts ≤ cap
  pub within : entry_room h < room
  pub wall : h.wall < 2 ^ 48
  pub slack : h.slack < 2 ^ 48

-- the 16 bytes of a pair: its first number, then its second
abbrev pub pair_bytes : ℕ × ℕ → List ℕ
pair_bytes p = number p.0 ++ number p.1

-- the pair of numbers at a position
abbrev pub pair_at : List ℕ → ℕ → ℕ × ℕ
pair_at bytes at = (number_at bytes at, number_at bytes (at + 8))

-- ---- the whole entry

-- What an entry says. Of a cell, which number of a header and its value; of a moved object, its rank by name
-- in the table before the entry, and its new place.
pub record Entry : Type 0 where
  pub head : EntryHead
  pub cells : List (ℕ × ℕ)
  pub moved : List (ℕ × ℕ)
  pub gone : List (List ℕ)
  pub puts : List Record

-- its bytes behind the gate, with the zeros of the gap behind it
abbrev pub entry_bytes : Entry → List ℕ
entry_bytes e = entry_head_bytes e.head ++ flat_map pair_bytes e.cells ++ flat_map pair_bytes e.moved
    ++ flat_map name_bytes e.gone
    ++ flat_map (record_bytes 2) e.puts ++ zeros (entry_room e.head - entry_len e.head)

-- where its lists stand, and where the gap does, from its gate on
abbrev pub cells_from : ℕ
cells_from = 56

abbrev pub moved_from : EntryHead → ℕ
moved_from h = 56 + 16 * h.cells

abbrev pub gone_from : EntryHead → ℕ
gone_from h = 56 + 16 * (h.cells + h.moved)

abbrev pub puts_from : EntryHead → ℕ
puts_from h = 56 + 16 * (h.cells + h.moved) + 64 * h.gone
