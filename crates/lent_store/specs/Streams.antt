-- What a dump of a store has, and what a store that is made of a dump has.
use Rattle.std.specs.Prelude.{◌≡◌, ◌⊎◌, ◌+◌, ◌<◌, ◌≤◌, ℕ, true, false, List, [], length, sum, take, Result, Ok, Err}
use Rattle.std.specs.FinMap as fin
use Rattle.lent_disk.specs.Disks.{lent_state}
use Rattle.lent_disk.specs.Notings.{LacksSpace, Noting}
use Rattle.lent_disk.specs.Rooms.{Filing, Logging}
use Rattle.size_class.specs.declared.TheConstants.{CLASSES, SIZE_MAX}
use Rattle.slot_pair.specs.Formats.{block_for}
use Rattle.segment_layout.specs.Shapes.{end_of}
use Rattle.map_model.specs.Maps.{Map}
use Rattle.store_model.specs.Connection.{kept_map, state_of}
use Rattle.slot_codec.specs.Spelling.{head_len}
use Rattle.placement_model.specs.Reads.{read_at}
use Rattle.reopen.specs.Loads.{digests_loaded}
use Rattle.reopen.specs.declared.fault.OpenFault.{OpenFault}
use Rattle.reopen.specs.declared.fault.OpenFault.TheVariants as open_fault
use Rattle.reopen.specs.declared.state.Loaded.{Loaded}
use Rattle.store_model.specs.Opened.{IsOpening}
use Rattle.dump_stream.specs.Dumping.{AreSound}
use Rattle.dump_stream.specs.Dumps.{IsDumpOf, dump_text}
use Rattle.load_stream.specs.Loaded.{AnswersLoad, IsLoadImage, Judges, TellsFew}
use Rattle.load_stream.specs.Steps.{passed}
use Rattle.load_stream.specs.Weights.{load_weight}
use Rattle.load_stream.specs.declared.fault.LoadFault.{LoadFault}
use Rattle.load_stream.specs.declared.fault.LoadFault.TheVariants as why
use Rattle.lent_store.specs.Embedded.{Embedded, file_in}
use Rattle.lent_store.specs.Noted.{RestsOnKept, StopsFrom}
use Rattle.lent_store.specs.declared.stream.DumpStop.{DumpStop}
use Rattle.lent_store.specs.declared.stream.DumpStop.TheVariants as stop

-- the map of the last checkpoint
abbrev pub kept_in : Embedded → Map
kept_in e = kept_map e.store (file_in e)

-- no object of the last checkpoint has another digest than it is to have
abbrev pub IsKeptSound : Embedded → Type 0
IsKeptSound e = AreSound e.store.kept_book.digests (fin.entries (kept_in e))

-- What a dump answers: the dump of the last checkpoint's map stands at the front, or an object of it is
-- damaged, or the store is broken, or the dump is longer than the memory, or there is no memory. It is never
-- that the file couldn't be read.
abbrev pub AnswersDump : Embedded → List ℕ → Result ℕ DumpStop → Type 0
AnswersDump e out (Ok n) = (e.store.is_broken ≡ false) × IsKeptSound e × (n ≤ length out)
    × (take n out ≡ dump_text CLASSES (kept_in e))
AnswersDump e out (Err stop.Broken) = e.store.is_broken ≡ true
AnswersDump e out (Err stop.Damaged) = (e.store.is_broken ≡ false) × (IsKeptSound e → ⊥)
AnswersDump e out (Err stop.NoMemory) = e.store.is_broken ≡ false
AnswersDump e out (Err stop.Disk) = ⊥
AnswersDump e out (Err stop.Short) = (e.store.is_broken ≡ false)
    × (length out < length (dump_text CLASSES (kept_in e)))

-- A store has the map of which a text is the dump, now and at its checkpoint, is made for this divisor and so
-- many names, and rests on its checkpoint. Where the making of its log stops, a crash leaves no store, or one
-- of the empty map, or of the dump's.
pub record HasLoaded (k names : ℕ) (text : List ℕ) (e : Embedded) : Type 0 where
  pub objects : Map
  pub dump : IsDumpOf CLASSES SIZE_MAX objects text
  pub few : fin.len objects ≤ names
  pub now : (state_of e.store (file_in e)).map ≡ objects
  pub kept : (state_of e.store (file_in e)).kept ≡ objects
  pub block : e.store.in_use.block ≡ block_for k names
  pub rests : RestsOnKept e
  pub stops : StopsFrom [] (IsLoadImage k names (passed true text [])) e

-- The room ends before the layout of the objects that the first line of a text tells, or the log is smaller
-- than what spells their load.
pub record LacksToLoad (k names : ℕ) (text : List ℕ) (room : Filing) (log : Logging) : Type 0 where
  pub tells : TellsFew names text
  pub lacks : (room.most < head_len names + end_of k tells.begins.volumes)
      ⊎ (log.most < load_weight tells.count (sum tells.begins.volumes))

-- A load is refused for what its text is, as `load` says it, or for want of memory, of room or of log. A text
-- in memory is read to its end.
pub record RefusesLoad (k names : ℕ) (text : List ℕ) (room : Filing) (log : Logging) (fault : LoadFault)
    : Type 0 where
  pub read : fault ≡ why.Source → ⊥
  pub judged : Judges (Err fault) → AnswersLoad names text (Err fault)
  pub lacks : fault ≡ why.Disk → LacksToLoad k names text room log

-- The file that was loaded wasn't opened, and it isn't that there was no memory.
pub record FailsToOpen (n : Noting) : Type 0 where
  pub now : Noting
  pub refusal : OpenFault
  pub opening : IsOpening CLASSES (lent_state n) (lent_state now) (Err refusal)
  pub memory : refusal ≡ open_fault.NoMemory → ⊥
  pub same_mount : (lent_state now).last_mount ≡ (lent_state n).last_mount
  pub cause : now.start.faults < now.history.faults → LacksSpace now

-- the same of a file that was read as a table: at its end, or where an object is damaged
abbrev pub CopiesDump : Loaded CLASSES → List ℕ → List ℕ → Result ℕ DumpStop → Type 0
CopiesDump x file out (Ok n) = AreSound (digests_loaded x)
    (fin.entries (read_at (head_len x.block.names) file x.table.now)) × (n ≤ length out)
    × (take n out ≡ dump_text CLASSES (read_at (head_len x.block.names) file x.table.now))
CopiesDump x file out (Err stop.Damaged) = AreSound (digests_loaded x)
    (fin.entries (read_at (head_len x.block.names) file x.table.now)) → ⊥
CopiesDump x file out (Err stop.Broken) = ⊥
CopiesDump x file out (Err stop.NoMemory) = Unit {0}
CopiesDump x file out (Err stop.Disk) = ⊥
CopiesDump x file out (Err stop.Short) = length out
    < length (dump_text CLASSES (read_at (head_len x.block.names) file x.table.now))
