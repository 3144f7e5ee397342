-- What an append leaves of the log of a slot, and what an entry says of changes. No file of the program has a
-- log yet.
use Rattle.std.specs.Prelude.{◌≡◌, ◌⊎◌, ℕ, ◌+◌, ◌-◌, ◌^◌, ◌<◌, ◌≤◌, false, List, length, Ok}
use Rattle.std.specs.FinMap as fin
use Rattle.byte_ranges.specs.Ranges.{SameFrom, SameWithin}
use Rattle.disk_face.specs.Moments.{Leaves}
use Rattle.disk_face.specs.States.{State}
use Rattle.slot_codec.specs.Changes.{AreFew, Change, gone_of, moves_of, puts_of}
use Rattle.slot_codec.specs.Choice.{is_open}
use Rattle.slot_codec.specs.Entries.{Entry, entry_room}
use Rattle.slot_codec.specs.Logs.{IsEntry, Logged, after_entry, read_log}
use Rattle.slot_codec.specs.Reading.{log_worn_from}
use Rattle.slot_codec.specs.Readable.{IsFull}
use Rattle.slot_codec.specs.Rows.{AreChanges, changed_rows, rows_of}
use Rattle.slot_codec.specs.declared.codec.Header.{Header}
use Rattle.slot_codec.specs.declared.codec.Record.{Record}
use Rattle.slot_pair.specs.Appends.{LeavesClosed, LeavesEntry, head_for}

-- A log: how many records its slot may have, the end of its room, where its first gate stands, the table in
-- front of it, the table that it leads to, and where the next entry would stand.
pub record Log : Type 0 where
  pub cap : ℕ
  pub top : ℕ
  pub first : ℕ
  pub start : Logged
  pub table : Logged
  pub end : ℕ

-- a file has a log
abbrev pub HasLog : Log → List ℕ → Type 0
HasLog log file = read_log log.cap log.top file log.first log.start ≡ Ok (log.table, log.end)

-- a log with an entry more
abbrev pub with_entry : Log → Entry → Log
with_entry log e =
    record log { table = after_entry log.table e; end = log.end + entry_room e.head }

-- the log as it was, or with an entry more
abbrev pub HasLogOrEntry : Log → Entry → List ℕ → Type 0
HasLogOrEntry log e file = HasLog log file ⊎ HasLog (with_entry log e) file

-- What is asked of an append: the file has the log, and the entry is one that is read behind it.
pub record CanAppend (log : Log) (e : Entry) (file : List ℕ) : Type 0 where
  pub long : log.top ≤ length file
  pub there : HasLog log file
  pub entry : IsEntry log.cap (log.top - log.end) log.table e
  pub names : fin.len log.table.rows ≤ 2 ^ 32
  pub records : log.cap < 2 ^ 64

-- an image has the bytes that a log has in a file, and a closed gate behind them
pub record KeepsLog (log : Log) (file image : List ℕ) : Type 0 where
  pub long : log.top ≤ length image
  pub bytes : SameWithin log.first log.end file image
  pub closed : is_open image log.end ≡ false

-- What an append may leave at any moment, from images that had `may_leave`: the old log beside what an old
-- image, or the content, has from the data on; or the log with the entry beside what the content has there.
pub record LeavesOldLog (log : Log) (e : Entry) (base : ℕ) (may_leave : List ℕ → Type 0)
    (file image : List ℕ) : Type 0
  where
    pub table : HasLog log image
    pub closed : LeavesClosed log.end (entry_room e.head) may_leave file image
    pub data_part : SameFrom base closed.before image

pub record LeavesNewLog (log : Log) (e : Entry) (base : ℕ) (file image : List ℕ) : Type 0 where
  pub table : HasLog (with_entry log e) image
  pub entry : LeavesEntry log.end e file image
  pub data_part : SameFrom base file image

-- What an append to a log leaves, whether or not it fails, in a file whose data part begins at `base`. The
-- data part stays. The content has the old log, or the log with the entry; and if at first each image had the
-- log's bytes and a closed gate behind them, then each image left since has one of the two.
pub record LogLeaves (log : Log) (e : Entry) (base : ℕ) (a b : State) : Type 0 where
  pub data_part : SameFrom base a.file b.file
  pub old_or_new : HasLogOrEntry log e b.file
  pub images : ((image : List ℕ) → a.may_leave image → KeepsLog log a.file image)
      → Leaves a b (λ image. LeavesOldLog log e base a.may_leave a.file image
      ⊎ LeavesNewLog log e base a.file image)

-- ---- what an entry says

-- An entry can say these changes of the records before, and with them they are the records of now.
pub record LeadsTo (before now : List Record) (changes : List Change) : Type 0 where
  pub fitting : AreChanges (rows_of before) (moves_of changes) (gone_of changes) (puts_of changes)
  pub few : AreFew before now changes
  pub applied : changed_rows (rows_of before) (moves_of changes) (gone_of changes) (puts_of changes)
      ≡ rows_of now

-- A header can be said behind a table, with these changes: it is full, its numbers are in range, the next
-- sequence isn't worn, and the log has room.
pub record CanSay (room : ℕ) (y : Logged) (h : Header) (changes : List Change) : Type 0 where
  pub full : IsFull h
  pub boundary : h.boundary < 256
  pub fresh : y.header.sequence + 1 < log_worn_from h.kind
  pub within : entry_room (head_for h changes) < room

-- the header of the table behind an entry that says a header, behind a table that had another one
abbrev pub logged_header : Header → Header → ℕ → Header
logged_header was h count =
    record h { version = was.version; sequence = was.sequence + 1; count = count }
