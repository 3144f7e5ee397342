-- A store that was made of a file without bytes.
use Rattle.std.specs.Prelude.{◌≡◌, ◌⊎◌, ◌+◌, ◌*◌, ◌<◌, ℕ, List, []}
use Rattle.std.specs.FinMap as fin
use Rattle.disk_face.specs.Frames.{call_weight}
use Rattle.lent_disk.specs.Rooms.{Filing, Logging}
use Rattle.size_class.specs.declared.TheConstants.{CLASSES}
use Rattle.slot_codec.specs.Spelling.{head_len}
use Rattle.segment_layout.specs.Books.{empty_book}
use Rattle.slot_pair.specs.Formats.{IsNoStore, first_in_use, formatted_file}
use Rattle.slot_pair.specs.declared.find.SlotFault.TheVariants as slot
use Rattle.reopen.specs.declared.fault.OpenFault.{OpenFault}
use Rattle.reopen.specs.declared.fault.OpenFault.TheVariants as fault
use Rattle.store_model.specs.Connection.{IsOver, state_of}
use Rattle.store_model.specs.Opened.{IsFresh, state_at}
use Rattle.load_stream.specs.Saved.{OpensEmpty}
use Rattle.lent_store.specs.Embedded.{Embedded, file_in}
use Rattle.lent_store.specs.Noted.{IsNotedOf, RestsOnKept, StopsFrom}

-- an image is no store, or opens to the empty map, and is made for these numbers
abbrev pub IsFormatImage : ℕ → ℕ → List ℕ → Type 0
IsFormatImage k names image = IsNoStore image ⊎ OpensEmpty k names image

-- It is the store of the empty map with these numbers, its file is what is formatted for them, its log spells
-- how the file came to be, and it rests on its checkpoint. Where the making of that log stops, a crash leaves
-- no store or one of the empty map.
pub record IsMade (k names : ℕ) (s : Embedded) : Type 0 where
  pub file : file_in s ≡ formatted_file k names
  pub in_use : s.store.in_use ≡ first_in_use k names
  pub state : state_of s.store (file_in s) ≡ state_at fin.empty empty_book 1
  pub fresh : IsFresh CLASSES s.store
  pub over : IsOver CLASSES s.store (file_in s)
  pub rests : RestsOnKept s
  pub noted : IsNotedOf [] s
  pub stops : StopsFrom [] (IsFormatImage k names) s

-- how many bytes spell the calls of a format: ten, which write 90 bytes
abbrev pub format_weight : ℕ
format_weight = 10 * call_weight + 90

-- the room is smaller than the head, or the log than what spells a format
abbrev pub LacksToFormat : ℕ → Filing → Logging → Type 0
LacksToFormat names room log = (room.most < head_len names) ⊎ (log.most < format_weight)

-- there was no memory, or the disk failed for want of room
abbrev pub NotMade : ℕ → Filing → Logging → OpenFault → Type 0
NotMade names room log why = (why ≡ fault.NoMemory)
    ⊎ ((why ≡ fault.Slot slot.Disk) × LacksToFormat names room log)
