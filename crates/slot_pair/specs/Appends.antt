-- An entry that is written behind a log, and what is left meanwhile. No file of the program has a log yet.
use Rattle.std.specs.Prelude.{◌≡◌, ◌⊎◌, ℕ, ◌+◌, ◌/◌, true, false, List, [], ◌∷◌, ◌++◌, length}
use Rattle.byte_ranges.specs.Ranges.{SameOutside, bytes_at}
use Rattle.disk_face.specs.Moments.{Leaves, Rests}
use Rattle.disk_face.specs.States.{State}
use Rattle.slot_codec.specs.Cells.{cells_of}
use Rattle.slot_codec.specs.Changes.{Change, gone_of, moves_of, puts_of}
use Rattle.slot_codec.specs.Choice.{is_open}
use Rattle.slot_codec.specs.Entries.{Entry, entry_bytes, entry_room}
use Rattle.slot_codec.specs.declared.codec.Header.{Header}
use Rattle.slot_codec.specs.declared.entry.EntryHead.{EntryHead}

-- the head of the entry that says a header and these changes
abbrev pub head_for : Header → List Change → EntryHead
head_for h changes = record {
  kind = h.kind;
  boundary = h.boundary;
  cells = length (cells_of h);
  moved = length (moves_of changes);
  gone = length (gone_of changes);
  puts = length (puts_of changes);
  wall = h.wall;
  slack = h.slack;
}

-- the entry that says a header and these changes
abbrev pub entry_for : Header → List Change → Entry
entry_for h changes = record {
  head = head_for h changes;
  cells = cells_of h;
  moved = moves_of changes;
  gone = gone_of changes;
  puts = puts_of changes;
}

-- what stands behind an entry's gate: the entry, the gap behind it, and the next gate, which is closed
abbrev pub entry_text : Entry → List ℕ
entry_text e = entry_bytes e ++ 0 ∷ []

-- in how many writes so many bytes are written, with at most 57,344 in each
abbrev pub pieces_of : ℕ → ℕ
pieces_of n = (n + 57343) / 57344

-- the changing calls by which an entry of so many bytes is appended
abbrev pub append_calls : ℕ → ℕ
append_calls room = 3 + pieces_of room

-- an entry whose gate is open stands at a position, with a closed gate behind it
pub record HasEntry (at : ℕ) (e : Entry) (file : List ℕ) : Type 0 where
  pub gate : is_open file at ≡ true
  pub text : bytes_at file (at + 1) (entry_room e.head) ≡ entry_text e

-- Once an entry is appended, it stands there, and a crash leaves what reads give.
pub record IsAppended (at : ℕ) (e : Entry) (b : State) : Type 0 where
  pub there : HasEntry at e b.file
  pub rests : Rests b

-- What an append may leave at any moment, from images that had `may_leave`: an image or the content of
-- before, but for the entry's bytes, with the entry's gate closed; or the content of before, with the whole
-- entry.
pub record LeavesClosed (at room : ℕ) (may_leave : List ℕ → Type 0) (file image : List ℕ) : Type 0 where
  pub before : List ℕ
  pub was : may_leave before ⊎ (before ≡ file)
  pub others : SameOutside at (room + 1) before image
  pub closed : is_open image at ≡ false

pub record LeavesEntry (at : ℕ) (e : Entry) (file image : List ℕ) : Type 0 where
  pub others : SameOutside at (entry_room e.head + 1) file image
  pub there : HasEntry at e image

-- What an append leaves, whether or not it fails, where the entry's gate is closed at first, in the content
-- and in each image.
pub record AppendLeaves (at : ℕ) (e : Entry) (a b : State) : Type 0 where
  pub content : is_open a.file at ≡ false → (is_open b.file at ≡ false) ⊎ HasEntry at e b.file
  pub images : is_open a.file at ≡ false
      → ((image : List ℕ) → a.may_leave image → is_open image at ≡ false)
      → Leaves a b (λ image. LeavesClosed at (entry_room e.head) a.may_leave a.file image
      ⊎ LeavesEntry at e a.file image)
