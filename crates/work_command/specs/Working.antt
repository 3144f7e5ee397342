-- The headlines of `work` and of `cached`: what the jobs of a number do to a file, what is put of them, and
-- what they cost.
use Rattle.std.specs.Prelude.{◌≡◌, ◌≢◌, ◌⊎◌, ℕ, ◌+◌, ◌-◌, ◌*◌, ◌/◌, ◌^◌, ◌<◌, ◌≤◌, ◌==◌, Bool, true, false, ◌||◌, List, [], length, slice_index, Option, Some, None, IsTrue}
use Rattle.disk_face.specs.Counts.{IsCalm, Rose, last}
use Rattle.disk_face.specs.Frames.{Untouched}
use Rattle.disk_face.specs.Moments.{LeftOnly}
use Rattle.disk_face.specs.States as disk
use Rattle.disk_face.specs.Streams.{SinkState}
use Rattle.size_class.specs.declared.TheConstants.{CLASSES, SIZE_MAX}
use Rattle.slot_codec.specs.Choice as choice
use Rattle.slot_codec.specs.Spelling.{head_len}
use Rattle.slot_codec.specs.declared.codec.SuperBlock.{SuperBlock}
use Rattle.slot_codec.specs.declared.codec.Kind.TheVariants as kind
use Rattle.map_model.specs.Maps.{Map}
use Rattle.map_model.specs.Requests.{Reply, Request}
use Rattle.segment_layout.specs.Books.{Book, book_end}
use Rattle.table_rules.specs.Opening.{OpensBy}
use Rattle.table_rules.specs.Sequences.{HasSequenceUpTo}
use Rattle.store_model.specs.States.{Limits, State}
use Rattle.store_model.specs.Opened.{ContinuesFrom, LeavesRoom, RestsOnFound, found_base}
use Rattle.ask_session.specs.Runs as run
use Rattle.ask_session.specs.Runs.{last_state}
use Rattle.work_maker.specs.Jobs.{jobs}
use Rattle.work_session.specs.Counts.{asked_in, calls_in}
use Rattle.work_session.specs.Works.{ArePaidLines, CountsOf, LinesOf}
use Rattle.work_session.specs.declared.summary.Summary.{Summary}
use Rattle.disk_face.specs.Devices.{Devices}
use Rattle.served_file.specs.Served.{EndsTight, Found, found_by, IsNextStart, OpensTo, OpensToBeing, OpensToKept, Ran, Starts, limits_with, most_left}
use Rattle.command_face.specs.Outcomes.{PutsLast, PutsLine}
use Rattle.served_file.specs.Unserved.{NeverServed}
use Rattle.work_command.specs.Asked.{NumberedJobs, Tells, TellsOn, jobs_numbered}
use Rattle.command_face.specs.declared.status.TheConstants.{DISK_FAILED, DONE, NO_FILE, NO_MEMORY, NO_STORE, SINK_FAILED}

-- ---- statuses

-- the statuses over a file that opens
abbrev pub is_working : ℕ → Bool
is_working status = (status == DONE) || (status == NO_FILE) || (status == DISK_FAILED)
    || (status == SINK_FAILED) || (status == NO_MEMORY)

-- all jobs were done
abbrev pub has_worked : ℕ → Bool
has_worked status = (status == DONE) || (status == SINK_FAILED)

-- How far the jobs came, by the status: all were done, or the disk failed before, or none was begun.
pub record HowManyJobs (status n : ℕ) (others : List Request) : Type 0 where
  pub known : is_working status ≡ true
  pub all : IsTrue (has_worked status) → others ≡ []
  pub some : status ≡ DISK_FAILED → others ≢ []
  pub none : (status ≡ NO_FILE) ⊎ (status ≡ NO_MEMORY) → n ≡ 0

-- ---- once all jobs were done

-- The summary tells how many jobs there were, how they were answered, and what the last state has. Its costs
-- are those of two rows of bytes by class: what was moved, and what the changes asked for that were done. By
-- each cost what was moved is paid for by what was asked for, and by the potential of the book found.
pub record SumsUp (k : ℕ) (b : Book) (start : State) (answered : List Request) (replies : List Reply)
    (states : List State) (x : Summary) : Type 0 where
  pub requests : x.requests ≡ length answered
  pub counts : CountsOf k replies (last_state start states) x
  pub moved_row : List ℕ
  pub asked_row : List ℕ
  pub lines : LinesOf CLASSES moved_row asked_row x
  pub same : x.moved * 2 ^ (CLASSES - 1) ≡ x.linear.moved
  pub asked : (c : ℕ) → slice_index asked_row c ≡ asked_in start answered replies states c
  pub paid : ArePaidLines CLASSES k b.grid x

-- The file is as long as the layout of the last state, and opens to its checkpoint. So does what a crash
-- leaves then, where the disk rested on the table found.
pub record HasSaved (u : SuperBlock) (s : State) (rested : Type 0) (new : disk.State) : Type 0 where
  pub ends : EndsTight u.k (head_len u.names) s new.file
  pub opens : run.OpensToKept CLASSES s new.file
  pub safe : rested → (image : List ℕ) → new.may_leave image → run.OpensToKept CLASSES s image

-- All jobs were done: the summary was put, with the counts of a cache where they were done through one, or
-- where the sink failed a front of it. Over a settled file that ended with its layout the changing calls are
-- at most those of the jobs and those of the bytes moved: one for the least size of an object of each class,
-- and one for each 65,536 bytes.
pub record AreDone (found : Found) (entries : Option ℕ) {limits : Limits} {start : State}
    {all : List Request} {n : ℕ} (ran : Ran limits start all n) (status : ℕ) (old new : Devices)
    : Type 0 where
  pub summary : Summary
  pub sums : SumsUp found.block.k found.b start ran.answered ran.replies ran.states summary
  pub text : List ℕ
  pub tells : Tells entries ran.answered ran.replies summary text
  pub puts : IsTrue old.sink.tells → PutsLast old.sink.given new.sink.given text (status ≡ SINK_FAILED)
  pub saved : HasSaved found.block (last_state start ran.states) (RestsOnFound found.table old.disk) new.disk
  pub calls : found.table.chosen.header.kind ≡ kind.Settled
      → length old.disk.file ≡ found_base found.table + book_end found.table.chosen.block.k found.b
      → new.disk.turn ≤ old.disk.turn + calls_in start ran.answered ran.replies ran.states
      + summary.flat.moved / 2 ^ (CLASSES - 1) + summary.moved / 65536

-- ---- the whole

-- What the jobs of a number over a file do that has a superblock, and opens by a table to a map and a book.
-- The first were done one after another, from the state in which the file is opened. What is said of images
-- is said of a disk that rested on that table, below the last turn, and of a moving table whose sequence
-- leaves room for the saves of its flush: at any moment a crash leaves the start, or what stood after a job
-- that made a checkpoint, or the one that the job makes in which the disk failed; and the start alone where
-- no job was begun.
pub record JobsHold (found : Found) (asked : NumberedJobs) (status : ℕ) (old new : Devices) : Type 0 where
  pub start : State
  pub starts : Starts found.table found.m found.b start
  pub continues : IsTrue (has_worked status)
      → ContinuesFrom found.table.chosen.header.kind found.table.chosen.header.sequence start.sequence
  pub n : ℕ
  pub ran : Ran (limits_with found.block) start (jobs asked.number asked.count found.block.names) n
  pub far : HowManyJobs status n ran.others
  pub done : IsTrue (has_worked status)
      → AreDone found asked.entries ran status old new
  pub crash : LeavesRoom found.table → RestsOnFound found.table old.disk → new.disk.turn < last
      → LeftOnly new.disk old.disk.turn (λ image. OpensToKept start ran.replies ran.states image
      ⊎ OpensToBeing status (limits_with found.block) (last_state start ran.states) ran.others image)
  pub numbered : LeavesRoom found.table → RestsOnFound found.table old.disk → new.disk.turn < last
      → LeftOnly new.disk old.disk.turn (HasSequenceUpTo (most_left found.block.k found.table))
  pub unbegun : (status ≡ NO_FILE) ⊎ (status ≡ NO_MEMORY)
      → LeavesRoom found.table → RestsOnFound found.table old.disk → new.disk.turn < last
      → LeftOnly new.disk old.disk.turn (OpensTo start)
  pub next_start : IsCalm old.disk.faults new.disk.faults → IsNextStart found.table
      (last_state start ran.states) (last_state start ran.states).sequence old.disk new.disk
  pub reach : (last_state start ran.states).sequence ≤ most_left found.block.k found.table

-- So it is of every file that opens.
abbrev pub JobsPromise : NumberedJobs → ℕ → Devices → Devices → Type 0
JobsPromise asked status old new = (t : choice.SlotTable) (m : Map) (b : Book)
    → OpensBy CLASSES SIZE_MAX t old.disk.file m b → JobsHold (found_by t m b) asked status old new

-- the promise of `work NUMBER COUNT`
abbrev pub WorkHolds : Found → ℕ → ℕ → ℕ → Devices → Devices → Type 0
WorkHolds found number count status old new = JobsHold found (jobs_numbered number count None) status old new

abbrev pub WorkPromise : ℕ → ℕ → ℕ → Devices → Devices → Type 0
WorkPromise number count status old new = JobsPromise (jobs_numbered number count None) status old new

-- the promise of `cached NUMBER COUNT ENTRIES`: that of `work`, and what its cache counted
abbrev pub CachedPromise : ℕ → ℕ → ℕ → ℕ → Devices → Devices → Type 0
CachedPromise number count entries status old new =
    JobsPromise (jobs_numbered number count (Some entries)) status old new

-- ---- whatever is told

-- What jobs do to the devices. No count falls, and a device's own fault comes only where its count rose;
-- where all is done the sink's didn't. What is told stays told.
pub record KeepsWork (old new : Devices) (status : ℕ) : Type 0 where
  pub later : old.disk.faults ≤ new.disk.faults
  pub rose : status ≡ DISK_FAILED → Rose old.disk.faults new.disk.faults
  pub no_turn_back : old.disk.turn ≤ new.disk.turn
  pub told : new.disk.tells ≡ old.disk.tells
  pub images_told : new.disk.tells_images ≡ old.disk.tells_images
  pub sink_later : old.sink.faults ≤ new.sink.faults
  pub sink_rose : status ≡ SINK_FAILED → Rose old.sink.faults new.sink.faults
  pub sink_calm : status ≡ DONE → new.sink.faults ≡ old.sink.faults
  pub sink_told : new.sink.tells ≡ old.sink.tells

-- What a summary says whatever the disk tells: how many jobs there were, of which no more were counted, and
-- costs that are those of two rows of bytes by class, of the bytes moved and of those asked for.
pub record SumsUpJobs (count : ℕ) (x : Summary) : Type 0 where
  pub requests : x.requests ≡ count + 1
  pub few : x.ok + x.kept + x.refused ≤ x.requests
  pub moved_row : List ℕ
  pub asked_row : List ℕ
  pub lines : LinesOf CLASSES moved_row asked_row x
  pub same : x.moved * 2 ^ (CLASSES - 1) ≡ x.linear.moved

-- The summary of a list of jobs was put, with the counts of a cache where they were done through one, or
-- where the sink failed a front of it.
pub record PutsSummary (count : ℕ) (entries : Option ℕ) (status : ℕ) (out after : SinkState) : Type 0 where
  pub summary : Summary
  pub sums : SumsUpJobs count summary
  pub text : List ℕ
  pub tells : TellsOn entries summary text
  pub puts : IsTrue out.tells → PutsLast out.given after.given text (status ≡ SINK_FAILED)

-- What jobs do whatever the file and the devices tell. Where all jobs were done their summary is put, and
-- else the fault line alone; where the file isn't there or is refused, it stays as it was. One that opens
-- isn't refused.
pub record JobsAlways (count : ℕ) (entries : Option ℕ) (status : ℕ) (old new : Devices) : Type 0 where
  pub known : (is_working status ≡ true) ⊎ (status ≡ NO_STORE)
  pub keeps : KeepsWork old new status
  pub untouched : (status ≡ NO_FILE) ⊎ (status ≡ NO_STORE) → Untouched old.disk new.disk
  pub refused : IsTrue old.disk.tells → status ≡ NO_STORE → NeverServed old.disk.file
  pub summed : IsTrue (has_worked status) → PutsSummary count entries status old.sink new.sink
  pub line_alone : IsTrue old.sink.tells → has_worked status ≡ false → PutsLine status old.sink new.sink

-- what `work` does always, and what `cached` does
abbrev pub WorkAlways : ℕ → ℕ → Devices → Devices → Type 0
WorkAlways count status old new = JobsAlways count None status old new

abbrev pub CachedAlways : ℕ → ℕ → ℕ → Devices → Devices → Type 0
CachedAlways count entries status old new = JobsAlways count (Some entries) status old new
