-- Records that are read and set one after another.
use Rattle.std.specs.Prelude.{◌≡◌, ℕ, ◌+◌, ◌-◌, ◌*◌, ◌≤◌, ◌==◌, if◌then◌else◌, List, ◌++◌, drop, Option, None, Result, Ok, IsTrue}
use Rattle.std.specs.FinMap as fin
use Rattle.byte_ranges.specs.Ranges.{bytes_at}
use Rattle.byte_ranges.specs.Lists.{◌>>=◌}
use Rattle.disk_face.specs.Frames.{Unchanged}
use Rattle.disk_face.specs.States.{State}
use Rattle.slot_codec.specs.Choice.{SlotRefusal, read_records}
use Rattle.slot_codec.specs.declared.codec.Record.{Record}
use Rattle.extent_table.specs.Extents.{Extents, records_of, rolled}
use Rattle.placement_model.specs.Orders.{SetSoFar}

-- the version as whose records those of a version are read: those of version 3 are spelled as those of version 2
abbrev pub spelling : ℕ → ℕ
spelling version = if version == 3 then 2 else version

-- Records are read, and they are those of a table, with their digests.
pub record AreSet (expected : Result (List Record) SlotRefusal) (now : Extents) : Type 0 where
  pub records : List Record
  pub read : expected ≡ Ok records
  pub same : rolled now.now now.digests ≡ records

-- records that were read, then n records of a text in a version that stands at a position, behind a name
unfoldable pub all_records : ℕ → List Record → ℕ → List ℕ → ℕ → Option (List ℕ)
    → Result (List Record) SlotRefusal
all_records version done n text at before = read_records version n text at before >>= λ rest. Ok
    (done ++ rest)

-- records that stand one behind another: their version, the bytes of each, where the first begins, and how
-- many they are
pub record Rows : Type 0 where
  pub version : ℕ
  pub len : ℕ
  pub at : ℕ
  pub count : ℕ

abbrev pub rows : ℕ → ℕ → ℕ → ℕ → Rows
rows version len at count = record { version = version; len = len; at = at; count = count }

-- Of the records of a text the first i were read and set: whatever was read before and stands behind the
-- text, all records are the same as before.
pub record SetThrough (r : Rows) (text : List ℕ) (i : ℕ) (before last : Option (List ℕ)) (old now : Extents)
    : Type 0
  where
    pub set : SetSoFar now.now last (records_of now.now)
    pub count : fin.len now.now ≡ fin.len old.now + i
    pub kept : now.kept ≡ old.kept
    pub names : now.names ≡ old.names
    pub done : List Record
    pub same : rolled now.now now.digests ≡ rolled old.now old.digests ++ done
    pub read : (front : List Record) (m : ℕ) (more : List ℕ)
        → all_records r.version front (r.count + m) (text ++ more) r.at before
        ≡ all_records r.version (front ++ done) (r.count - i + m) (drop (r.len * i) text ++ more)
        (r.at + r.len * i) last

-- The records of a text were read and set, whatever was read before and stands behind it.
pub record SetPiece (r : Rows) (text : List ℕ) (before last : Option (List ℕ)) (old now : Extents) : Type 0
  where
    pub done : List Record
    pub same : rolled now.now now.digests ≡ rolled old.now old.digests ++ done
    pub read : (front : List Record) (m : ℕ) (more : List ℕ)
        → all_records r.version front (r.count + m) (text ++ more) r.at before
        ≡ all_records r.version (front ++ done) m more (r.at + r.len * r.count) last

-- Of the records that stand in a file the first were read, and they are those of a table.
pub record ReadSoFar (r : Rows) (file : List ℕ) (done : ℕ) (last : Option (List ℕ)) (now : Extents) : Type 0
  where
    pub records : List Record
    pub same : rolled now.now now.digests ≡ records
    pub read : read_records r.version r.count (bytes_at file r.at (r.len * r.count)) r.at None
        ≡ all_records r.version records (r.count - done)
        (bytes_at file (r.at + r.len * done) (r.len * (r.count - done))) (r.at + r.len * done) last

-- Of the records that stand on a disk the first were read and set.
pub record ReadThrough (r : Rows) (done : ℕ) (last : Option (List ℕ)) (old now : Extents)
    (first later : State) : Type 0 where
  pub few : done ≤ r.count
  pub set : SetSoFar now.now last (records_of now.now)
  pub counted : fin.len now.now ≡ done
  pub kept : now.kept ≡ old.kept
  pub names : now.names ≡ old.names
  pub read : IsTrue first.tells → ReadSoFar r first.file done last now
  pub frame : Unchanged first later
  pub calm : later.faults ≡ first.faults
