-- The slot in use of a whole file, and its table, or the first refusal.
use Rattle.std.specs.Prelude.{ℕ, zero, suc, ◌+◌, ◌*◌, ◌==◌, nat_lt, Bool, true, false, not, if◌then◌else◌, List, [], ◌∷◌, length, map, take, drop, slice_index, Option, Some, None, Result, Ok, Err}
use Rattle.std.specs.FinMap as fin
use Rattle.std.specs.Ordering.{is_lt}
use Rattle.byte_ranges.specs.Ranges.{bytes_at}
use Rattle.byte_ranges.specs.Lists.{◌>>=◌}
use Rattle.slot_codec.specs.Names.{name_cmp}
use Rattle.slot_codec.specs.Spelling.{digest_len, format_gate_at, gate_at, gate_open, has_digests, head_len, header_len, record_len, slot_at, superblock_len, zeros}
use Rattle.slot_codec.specs.Reading.{header_in, number_at, read_record, superblock_in}
use Rattle.slot_codec.specs.declared.codec.SuperBlock.{SuperBlock}
use Rattle.slot_codec.specs.declared.codec.Header.{Header}
use Rattle.slot_codec.specs.declared.codec.Record.{Record}
use Rattle.slot_codec.specs.declared.codec.CodecFault.{CodecFault}
use Rattle.slot_codec.specs.declared.codec.CodecFault.TheVariants as fault

-- why a file is refused before its table's rules are tried; a codec fault has a position
pub data SlotRefusal : Type 0 where
  too_short : SlotRefusal
  unformatted : SlotRefusal
  no_gate : SlotRefusal
  same_sequence : SlotRefusal
  codec : CodecFault → ℕ → SlotRefusal

-- a fault in a part that stands at a position
abbrev pub placed_at : {A : Type 0} → ℕ → Result A CodecFault → Result A SlotRefusal
placed_at at (Ok x) = Ok x
placed_at at (Err f) = Err (codec f at)

-- the slot in use, and whether the gate of the other slot is open
pub record InUse : Type 0 where
  pub block : SuperBlock
  pub slot : ℕ
  pub sequence : ℕ
  pub other_open : Bool

abbrev pub is_open : List ℕ → ℕ → Bool
is_open file at = slice_index file at == gate_open

abbrev pub sequence_at : List ℕ → ℕ → ℕ → ℕ
sequence_at file names slot = number_at file (slot_at names slot + 8)

-- of two slots that are open or not, the open one, or the one with the greater sequence
abbrev pub pick : SuperBlock → Bool → Bool → ℕ → ℕ → Result InUse SlotRefusal
pick block false false first second = Err no_gate
pick block true false first second =
    Ok (record { block = block; slot = 0; sequence = first; other_open = false })
pick block false true first second =
    Ok (record { block = block; slot = 1; sequence = second; other_open = false })
pick block true true first second =
    if first == second then Err same_sequence else
    if nat_lt second first then Ok (record { block = block; slot = 0; sequence = first; other_open = true })
    else
    Ok (record { block = block; slot = 1; sequence = second; other_open = true })

-- The slot in use of a file whose slots have logs or have none: by the length, the superblock, the three
-- gates and the two sequences.
abbrev pub slot_in : Bool → List ℕ → Result InUse SlotRefusal
slot_in logged file =
    if nat_lt (length file) superblock_len then Err too_short else
    (placed_at 0 (superblock_in logged (bytes_at file 0 superblock_len)) >>= λ block.
    if nat_lt (length file) (head_len block.names) then Err too_short else
    if not (is_open file (format_gate_at block.names)) then Err unformatted else
    pick block (is_open file (gate_at block.names 0)) (is_open file (gate_at block.names 1))
    (sequence_at file block.names 0) (sequence_at file block.names 1))

abbrev pub slot_in_use : List ℕ → Result InUse SlotRefusal
slot_in_use file = slot_in false file

-- The slot in use with its header.
pub record Chosen : Type 0 where
  pub block : SuperBlock
  pub slot : ℕ
  pub header : Header

abbrev pub chosen_in : Bool → List ℕ → Result Chosen SlotRefusal
chosen_in logged file =
    slot_in logged file >>= λ in_use.
    placed_at (slot_at in_use.block.names in_use.slot)
    (header_in logged in_use.block.names (bytes_at file (slot_at in_use.block.names in_use.slot) header_len))
    >>= λ header.
    Ok (record { block = in_use.block; slot = in_use.slot; header = header })

abbrev pub chosen : List ℕ → Result Chosen SlotRefusal
chosen file = chosen_in false file

-- a name is greater than the one before it, if there is one
abbrev pub rises : Option (List ℕ) → List ℕ → Bool
rises None name = true
rises (Some before) name = is_lt (name_cmp before name)

-- the record that bytes say in a version, behind that of a name
abbrev pub record_after : ℕ → List ℕ → Option (List ℕ) → Result Record CodecFault
record_after version bytes before =
    read_record version bytes >>= λ r.
    if not (rises before r.name) then Err fault.Order else Ok r

-- the first record of a text that stands at a position, behind that of a name
abbrev pub first_record : ℕ → List ℕ → ℕ → Option (List ℕ) → Result Record SlotRefusal
first_record version text at before =
    placed_at at (record_after version (take (record_len version) text) before)

-- n records of a text that stands at a position, behind that of a name
abbrev pub read_records : ℕ → ℕ → List ℕ → ℕ → Option (List ℕ) → Result (List Record) SlotRefusal
read_records version zero text at before = Ok []
read_records version (suc n) text at before =
    first_record version text at before >>= λ r.
    read_records version n (drop (record_len version) text) (at + record_len version)
    (Some r.name) >>= λ rest.
    Ok (r ∷ rest)

-- where the records of the slot in use stand, and their bytes
abbrev pub records_at : Chosen → ℕ
records_at c = slot_at c.block.names c.slot + header_len

abbrev pub records_text : List ℕ → Chosen → List ℕ
records_text file c = bytes_at file (records_at c) (record_len c.header.version * c.header.count)

abbrev pub records_of : List ℕ → Chosen → Result (List Record) SlotRefusal
records_of file c = read_records c.header.version c.header.count (records_text file c) (records_at c) None

-- ---- the table

-- byte strings by the names of objects
abbrev pub Digests : Type 0
Digests = fin.FinMap name_cmp (List ℕ)

-- The table of a file: its slot and header, and in order its records without their digests. In version 2 it
-- has a digest for each name.
pub record SlotTable : Type 0 where
  pub chosen : Chosen
  pub records : List Record
  pub digests : Option Digests

-- a record without its digest
abbrev pub plain : Record → Record
plain r = record r { digest = zeros digest_len }

abbrev pub digest_entry : Record → List ℕ × List ℕ
digest_entry r = (r.name, r.digest)

-- in version 2, the digests of records by their names
abbrev pub digests_in : ℕ → List Record → Option Digests
digests_in version records =
    if has_digests version then Some (fin.from_entries (map digest_entry records)) else None

-- the table of a slot in use with these records
abbrev pub table_with : Chosen → List Record → SlotTable
table_with c records = record {
  chosen = c;
  records = map plain records;
  digests = digests_in c.header.version records;
}

unfoldable pub table_of : List ℕ → Result SlotTable SlotRefusal
table_of file =
    chosen file >>= λ c.
    records_of file c >>= λ records.
    Ok (table_with c records)
