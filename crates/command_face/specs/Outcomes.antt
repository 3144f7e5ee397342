-- The statuses of the program, how a command that is to answer ends, and what it puts.
use Rattle.std.specs.Prelude.{◌≡◌, ◌⊎◌, ℕ, ◌≤◌, List, [], ◌++◌, length, take, Result, Ok, Err, IsOk, IsTrue}
use Rattle.disk_face.specs.Counts.{Rose}
use Rattle.disk_face.specs.Streams.{SinkState}
use Rattle.command_face.specs.Faults.{line_of}
use Rattle.command_face.specs.declared.status.TheConstants.{DAMAGED_OBJECT, DISK_FAILED, DONE, FAULTY_REQUEST, FAULTY_WORDS, NOT_EMPTY, NO_BATCH, NO_FILE, NO_MEMORY, NO_OBJECT, NO_STORE, SINK_FAILED, SOURCE_FAILED, TOO_MANY_NAMES, TOO_MANY_REQUESTS, UNFIT, WORN}
use Rattle.command_face.specs.declared.stop.StopReason.{StopReason}
use Rattle.command_face.specs.declared.stop.StopReason.TheVariants as stop

-- the status of a command that stops for this reason
abbrev pub status_of : StopReason → ℕ
status_of stop.Words = FAULTY_WORDS
status_of stop.NoFile = NO_FILE
status_of (stop.NotStore f) = NO_STORE
status_of (stop.Taken n) = NOT_EMPTY
status_of stop.Missing = NO_OBJECT
status_of stop.Damaged = DAMAGED_OBJECT
status_of stop.Disk = DISK_FAILED
status_of stop.Sink = SINK_FAILED
status_of stop.NoMemory = NO_MEMORY
status_of (stop.Line n) = FAULTY_REQUEST
status_of stop.Source = SOURCE_FAILED
status_of stop.Budget = TOO_MANY_REQUESTS
status_of (stop.TooManyNames n) = TOO_MANY_NAMES
status_of stop.Worn = WORN
status_of stop.NoBatch = NO_BATCH
status_of (stop.Unfit n) = UNFIT

-- the status of a command that ends so
abbrev pub status_at : {A : Type 0} → Result A StopReason → ℕ
status_at (Ok a) = DONE
status_at (Err why) = status_of why

-- How a command ends that is to answer so. Done, or its sink failed: `bytes` is the whole answer. Its disk
-- failed: the whole answer or nothing. No file, no memory: nothing. Else it stops for the answer's own
-- reason, and there is nothing.
abbrev pub EndsBy : (Result (List ℕ) StopReason → Type 0) → List ℕ → Result (Unit {0}) StopReason → Type 0
EndsBy answer bytes (Ok x) = answer (Ok bytes)
EndsBy answer bytes (Err stop.Sink) = answer (Ok bytes)
EndsBy answer bytes (Err stop.Disk) = answer (Ok bytes) ⊎ (bytes ≡ [])
EndsBy answer bytes (Err stop.NoFile) = bytes ≡ []
EndsBy answer bytes (Err stop.NoMemory) = bytes ≡ []
EndsBy answer bytes (Err why) = answer (Err why) × (bytes ≡ [])

-- the line that is put last
abbrev pub line_at : {A : Type 0} → Result A StopReason → List ℕ
line_at (Ok a) = []
line_at (Err why) = line_of why

-- a front of these bytes was put: all of them, some, or none
abbrev pub IsFront : List ℕ → List ℕ → List ℕ → Type 0
IsFront before now bytes = (n : ℕ) × (n ≤ length bytes) × (now ≡ before ++ take n bytes)

-- These bytes were put, or where the sink failed a front of them.
pub record PutsLast (before now bytes : List ℕ) (failed : Type 0) : Type 0 where
  pub front : IsFront before now bytes
  pub whole : (now ≡ before ++ bytes) ⊎ failed

-- What a command that ends so has put: these bytes, all of them where it is done and a front of them where
-- it stopped, and then the line of its end.
pub record PutsOut (bytes : List ℕ) (end : Result (Unit {0}) StopReason) (before now : List ℕ)
    (failed : Type 0)
    : Type 0 where
  pub between : List ℕ
  pub object : IsFront before between bytes
  pub whole : IsOk end → between ≡ before ++ bytes
  pub line : PutsLast between now (line_at end) failed

-- The line of a reason to stop of this status was put and nothing more, whole unless the sink failed.
pub record PutsLine (status : ℕ) (old new : SinkState) : Type 0 where
  pub why : StopReason
  pub same_status : status ≡ status_of why
  pub line : PutsLast old.given new.given (line_of why) (Rose old.faults new.faults)

-- The end of a command that is to answer so, by its status and by what it put.
pub record Ends (answer : Result (List ℕ) StopReason → Type 0) (status : ℕ)
    (old new : SinkState) : Type 0 where
  pub end : Result (Unit {0}) StopReason
  pub bytes : List ℕ
  pub same_status : status ≡ status_at end
  pub by : EndsBy answer bytes end
  pub puts : IsTrue old.tells → PutsOut bytes end old.given new.given (Rose old.faults new.faults)
