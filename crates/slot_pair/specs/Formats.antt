-- What a file is formatted to, and what stands there before it is whole.
use Rattle.std.specs.Prelude.{◌≡◌, ◌⊎◌, ℕ, ◌+◌, ◌-◌, ◌<◌, ◌≤◌, false, List, [], ◌∷◌, ◌++◌, length, replicate, IsErr, None, Ok}
use Rattle.byte_ranges.specs.Ranges.{SameBelow, overwritten, resized}
use Rattle.slot_codec.specs.Choice as choice
use Rattle.slot_codec.specs.Spelling.{gate_at, gate_open, head_len, header_bytes, room_len, slot_len, superblock_bytes, superblock_len, zeros}
use Rattle.slot_codec.specs.declared.codec.SuperBlock.{SuperBlock}
use Rattle.slot_codec.specs.declared.codec.Header.{Header}
use Rattle.slot_codec.specs.declared.codec.Kind.TheVariants.{Settled}

-- what the file is made for
abbrev pub block_for : ℕ → ℕ → SuperBlock
block_for k names = record { k = k; names = names }

-- the settled header of sequence 1, whose other numbers are 0
unfoldable pub first_header : Header
first_header =
    record {
      version = 1;
      kind = Settled;
      boundary = 0;
      sequence = 1;
      count = 0;
      wall = 0;
      slack = 0;
      caps = replicate 32 0;
      used = replicate 32 (replicate 32 0);
    }

-- the open slot of that header, without records
unfoldable pub first_slot : ℕ → List ℕ
first_slot names = header_bytes first_header ++ zeros (room_len names) ++ gate_open ∷ []

-- all bytes but the last: the superblock, that slot, and a slot that was never written
unfoldable pub unsealed_file : ℕ → ℕ → List ℕ
unsealed_file k names = superblock_bytes (block_for k names) ++ first_slot names ++ zeros (slot_len names)

-- all bytes of a file that was formatted: the last is the format gate
unfoldable pub formatted_file : ℕ → ℕ → List ℕ
formatted_file k names = unsealed_file k names ++ gate_open ∷ []

-- the first 24 bytes of that header; those that follow are 0
abbrev pub first_bytes : List ℕ
first_bytes = 1 ∷ 0 ∷ 0 ∷ 0 ∷ 0 ∷ 0 ∷ 0 ∷ 0 ∷ 1 ∷ 0 ∷ 0 ∷ 0 ∷ 0 ∷ 0 ∷ 0 ∷ 0 ∷ 0 ∷ 0 ∷ 0 ∷ 0 ∷ 0 ∷ 0 ∷ 0 ∷ 0 ∷
    []

-- a superblock once that slot is written behind it, into zeros that reach to the format gate
abbrev pub with_first_slot : ℕ → List ℕ → List ℕ
with_first_slot names front = overwritten
    (overwritten (resized front (head_len names - 1)) superblock_len first_bytes) (gate_at names 0)
    (gate_open ∷ [])

-- slot 0 is in use, with sequence 1, and the gate of the other slot is closed
abbrev pub first_in_use : ℕ → ℕ → choice.InUse
first_in_use k names = record { block = block_for k names; slot = 0; sequence = 1; other_open = false }

abbrev pub first_chosen : ℕ → ℕ → choice.Chosen
first_chosen k names = record { block = block_for k names; slot = 0; header = first_header }

abbrev pub first_table : ℕ → ℕ → choice.SlotTable
first_table k names = record { chosen = first_chosen k names; records = []; digests = None }

-- the table of a file is that of a store that was just formatted
pub record HasFirstTable (k names : ℕ) (file : List ℕ) : Type 0 where
  pub in_use : choice.slot_in_use file ≡ Ok (first_in_use k names)
  pub chosen : choice.chosen file ≡ Ok (first_chosen k names)
  pub table : choice.table_of file ≡ Ok (first_table k names)

-- a file is no store
abbrev pub IsNoStore : List ℕ → Type 0
IsNoStore file = IsErr (choice.chosen file)

-- a file is no store, or has the table of a store that was just formatted
abbrev pub IsNoStoreOrEmpty : ℕ → ℕ → List ℕ → Type 0
IsNoStoreOrEmpty k names file = IsNoStore file ⊎ HasFirstTable k names file

-- a file begins with another one, and ends before its data part
pub record IsUnfinished (names : ℕ) (front file : List ℕ) : Type 0 where
  pub low : length front ≤ length file
  pub high : length file < head_len names
  pub same : SameBelow (length front) front file

-- a file is another one, or has one byte more
pub record HasOneMore (before file : List ℕ) : Type 0 where
  pub either : (length file ≡ length before) ⊎ (length file ≡ length before + 1)
  pub same : SameBelow (length before) before file
