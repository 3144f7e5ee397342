-- The table of a slot that is to have a log behind it. No file of the program has one yet.
use Rattle.std.specs.Prelude.{◌≡◌, ℕ, ◌+◌, ◌-◌, ◌*◌, ◌/◌, ◌<◌, Bool, nat_lt, if◌then◌else◌, List, length, slice_index}
use Rattle.byte_ranges.specs.Ranges.{bytes_at}
use Rattle.slot_codec.specs.Entries.{up}
use Rattle.slot_codec.specs.Spelling.{header_len, zeros}
use Rattle.slot_codec.specs.declared.codec.Header.{Header}
use Rattle.slot_codec.specs.declared.codec.Record.{Record}
use Rattle.slot_pair.specs.Saves.{HasTable}

-- where so many records end, which have 112 bytes each, and the gap behind them begins
abbrev pub gap_at : ℕ → ℕ → ℕ
gap_at at count = at + header_len + 112 * count

-- where the first gate of the log stands, behind the gap
abbrev pub first_gate_at : ℕ → ℕ → ℕ
first_gate_at at count = up (gap_at at count)

-- how many bytes the gap and the first gate have, where this gate stands below the top
abbrev pub lead_len : ℕ → ℕ → ℕ → ℕ
lead_len at top count = if nat_lt (first_gate_at at count) top
    then first_gate_at at count + 1 - gap_at at count else 0

-- how many bytes the header, the records, the gap and the first gate have
abbrev pub base_len : ℕ → ℕ → ℕ → ℕ
base_len at top count = header_len + 112 * count + lead_len at top count

-- the changing calls by which they are written, with the sync
abbrev pub base_calls : ℕ → ℕ
base_calls count = 2 + (count + 511) / 512

-- the changing calls by which the other slot is closed where its gate is open
abbrev pub closing_calls : Bool → ℕ
closing_calls other_open = if other_open then 2 else 0

-- A header, and behind it records, stand at a position. Where the first gate stands below the top, the gap is
-- zeros, and this gate's byte is 0.
pub record HasBase (at top : ℕ) (h : Header) (rs : List Record) (file : List ℕ) : Type 0 where
  pub table : HasTable at h rs file
  pub gap : first_gate_at at (length rs) < top
      → bytes_at file (gap_at at (length rs)) (first_gate_at at (length rs) - gap_at at (length rs))
      ≡ zeros (first_gate_at at (length rs) - gap_at at (length rs))
  pub gate : first_gate_at at (length rs) < top → slice_index file (first_gate_at at (length rs)) ≡ 0
