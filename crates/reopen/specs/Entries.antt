-- An entry of a log by its parts, and the head of the next entry of a log.
use Rattle.std.specs.Prelude.{◌≡◌, ℕ, suc, ◌+◌, ◌-◌, ◌≤◌, false, nat_lt, if◌then◌else◌, List, [], ◌∷◌, drop, slice_get, Option, Some, None, Result, Ok, Err}
use Rattle.std.specs.FinMap as fin
use Rattle.byte_ranges.specs.Lists.{◌>>=◌}
use Rattle.byte_ranges.specs.Ranges.{bytes_at}
use Rattle.slot_codec.specs.Choice.{SlotRefusal, codec, is_open, placed_at}
use Rattle.slot_codec.specs.Entries.{entry_len, entry_room, gone_from, moved_from, puts_from, read_entry_head}
use Rattle.slot_codec.specs.Logs.{Logged, begun, read_entry, room_at}
use Rattle.slot_codec.specs.declared.codec.CodecFault.TheVariants as fault
use Rattle.slot_codec.specs.declared.entry.EntryHead.{EntryHead}
use Rattle.reopen.specs.Items.{Passing, given, items_len, may_be_over, read_part}
use Rattle.reopen.specs.declared.items.Items.{Items}
use Rattle.reopen.specs.declared.items.Part.{Part}
use Rattle.reopen.specs.declared.items.Part.TheVariants as part

-- the parts of the entry whose gate stands at a position
abbrev pub parts_of : EntryHead → ℕ → List Items
parts_of h at =
    record { part = part.Cells; at = at + 56; count = h.cells }
    ∷ record { part = part.Moved; at = at + moved_from h; count = h.moved }
    ∷ record { part = part.Gone; at = at + gone_from h; count = h.gone }
    ∷ record { part = part.Puts; at = at + puts_from h; count = h.puts }
    ∷ record { part = part.Gap; at = at + entry_len h; count = entry_room h - entry_len h }
    ∷ []

-- what parts make of a table on its way, one after another, or the first fault
abbrev pub read_parts : List Items → List ℕ → Passing → Result Passing SlotRefusal
read_parts [] file p = Ok p
read_parts (x ∷ xs) file p = read_part x file p >>= λ q. read_parts xs file q

-- the part that comes first
abbrev pub first_of : List Items → Part
first_of [] = part.Gap
first_of (x ∷ xs) = x.part

-- before a part at which no names are too many, none are
abbrev pub IsOrderly : List Items → Type 0
IsOrderly xs = (k : ℕ) → may_be_over (first_of (drop (suc k) xs)) ≡ false
    → may_be_over (first_of (drop k xs)) ≡ false

-- each part ends at a position at most
abbrev pub EndWithin : List Items → ℕ → Type 0
EndWithin xs end = (k : ℕ) (x : Items) → slice_get xs k ≡ Some x → x.at + items_len x ≤ end

-- a table before the parts of an entry
abbrev pub entered : Logged → EntryHead → Passing
entered x h = record { given = given 0 (begun x.header h); rows = x.rows }

-- the table behind the parts of an entry, unless it has more records than a slot has room for
abbrev pub behind_parts : ℕ → ℕ → Passing → Result Logged SlotRefusal
behind_parts cap at p = if nat_lt cap (fin.len p.rows) then Err (codec fault.Count at) else
    Ok (record { header = record p.given.header { count = fin.len p.rows }; rows = p.rows })

-- the table behind an entry whose head is read
abbrev pub read_rest : ℕ → List ℕ → ℕ → Logged → EntryHead → Result Logged SlotRefusal
read_rest cap file at x h = read_parts (parts_of h at) file (entered x h) >>= behind_parts cap at

-- the head of the entry whose gate stands at a position, unless that gate is closed
abbrev pub read_head : ℕ → ℕ → ℕ → List ℕ → ℕ → Result (Option EntryHead) SlotRefusal
read_head cap count top file at = if is_open file at then
    (placed_at at (read_entry_head cap count (top - at) (bytes_at file (at + 1) 55)) >>= λ h. Ok (Some h))
    else
    Ok None

-- the table behind the entry whose gate stands at a position, and where the next gate does, unless that gate
-- is closed
abbrev pub read_next : ℕ → ℕ → List ℕ → ℕ → Logged → Result (Option (Logged × ℕ)) SlotRefusal
read_next cap top file at x = if is_open file at then
    (read_entry cap top file at x >>= λ y. Ok (Some (y, at + room_at file at))) else
    Ok None
