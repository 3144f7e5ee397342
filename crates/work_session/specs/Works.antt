-- The work of a store: jobs that are done one after another, and what is summed up of them.
use Rattle.std.specs.Prelude.{◌≡◌, ◌⊎◌, ℕ, ◌+◌, ◌-◌, ◌*◌, ◌/◌, ◌^◌, ◌<◌, ◌≤◌, false, List, ◌∷◌, ◌++◌, length, slice_index, sum_by, IsTrue}
use Rattle.std.specs.FinMap as fin
use Rattle.byte_ranges.specs.Lists.{sum_below}
use Rattle.disk_face.specs.Counts.{Rose}
use Rattle.disk_face.specs.States as disk
use Rattle.disk_face.specs.Moments.{Leaves}
use Rattle.disk_face.specs.Writes.{KeepsDisk}
use Rattle.size_class.specs.declared.TheConstants.{SIZE_MAX}
use Rattle.map_model.specs.Maps.{volume}
use Rattle.map_model.specs.Requests.{Reply, Request}
use Rattle.segment_layout.specs.Books.{book_end}
use Rattle.extent_table.specs.Extents.{volume_of}
use Rattle.segment_layout.specs.Bounds.{Loose}
use Rattle.table_rules.specs.Opening.{Opens}
use Rattle.table_rules.specs.Sequences.{HasSequenceUpTo}
use Rattle.move_cost.specs.Costs.{factor, flat, linear, potential, seek, weigh}
use Rattle.store_model.specs.Connection.{IsConnected, StoreValue, RestsOnTable, base_of, limits_of, state_of}
use Rattle.store_model.specs.States.{Chain, Limits, State, served}
use Rattle.store_model.specs.Stores.{IsStore}
use Rattle.ask_session.specs.Runs.{IsRunImage, OpensToKept, last_state, most_sequence}
use Rattle.work_session.specs.declared.summary.Cost.{Cost}
use Rattle.work_session.specs.declared.summary.Summary.{Summary}
use Rattle.work_session.specs.Counts.{asked_in, calls_in, kept_of, ok_of, read_of, refused_of}

-- ---- jobs

-- Jobs were done one after another by a store, which is another then: the states after them are a chain of
-- steps. What a crash may leave meanwhile was left in one of them, where the disk rested on the checkpoint's
-- table; it does so again; and its sequence is at most the greatest that requests leave.
pub record HasWorked (classes : ℕ) (old new : StoreValue) (jobs : List Request) (replies : List Reply)
    (states : List State) (before now : disk.State) : Type 0 where
  pub chain : IsTrue before.tells
      → Chain (limits_of old) (state_of old before.file) jobs replies states
  pub newest : IsTrue before.tells → state_of new now.file ≡ last_state (state_of old before.file) states
  pub block : new.in_use.block ≡ old.in_use.block
  pub unbroken : new.is_broken ≡ false
  pub sound : IsStore classes new
  pub over : IsConnected classes new now
  pub rests : IsTrue before.tells → RestsOnTable (base_of old) old.kept before
      → RestsOnTable (base_of new) new.kept now
  pub left : IsTrue before.tells → RestsOnTable (base_of old) old.kept before
      → Leaves before now (IsRunImage classes old.in_use.block.k (base_of old) (state_of old before.file)
      states)
  pub reach : IsTrue before.tells
      → new.in_use.sequence ≤ most_sequence old.in_use.block.k old.in_use.sequence
  pub numbered : IsTrue before.tells → RestsOnTable (base_of old) old.kept before
      → Leaves before now (HasSequenceUpTo (most_sequence old.in_use.block.k old.in_use.sequence))
  pub later : before.faults ≤ now.faults
  pub frame : KeepsDisk before now

-- An image that is left while a job is done in a state: it opens to the last checkpoint or, where the job
-- makes one, to what stands after it; and its data part is within bounds for the maps before and after.
pub record IsJobImage (classes base : ℕ) (limits : Limits) (s : State) (r : Request) (image : List ℕ) : Type 0
  where
    pub opens : OpensToKept classes s image ⊎ ((0 < (served limits s r).saves.least)
        × Opens classes SIZE_MAX image (served limits s r).state.map (served limits s r).state.book)
    pub loose : Loose limits.k (length image - base) s.map (served limits s r).state.map

-- ---- what is summed up

-- The counts of a summary are those of the replies, and the numbers at its end those of the last state: its
-- names and their bytes, and how long its data part is.
pub record CountsOf (k : ℕ) (replies : List Reply) (s : State) (x : Summary) : Type 0 where
  pub ok : x.ok ≡ sum_by ok_of replies
  pub kept : x.kept ≡ sum_by kept_of replies
  pub read : x.read ≡ sum_by read_of replies
  pub refused : x.refused ≡ sum_by refused_of replies
  pub names : x.names ≡ fin.len s.map
  pub bytes : x.bytes ≡ volume s.map
  pub long : x.length ≡ book_end k s.book

-- whatever the disk tells, these numbers are those of the store at the end
pub record EndsAt (s : StoreValue) (x : Summary) : Type 0 where
  pub names : x.names ≡ fin.len s.now
  pub bytes : x.bytes ≡ volume_of s.now
  pub long : x.length ≡ book_end s.in_use.block.k s.book

-- a line of costs has what the moved and the asked bytes weigh by a cost
pub record IsLine (classes : ℕ) (cost : ℕ → ℕ) (moved_row asked_row : List ℕ) (line : Cost) : Type 0 where
  pub moved : line.moved ≡ weigh classes cost moved_row
  pub asked : line.asked ≡ weigh classes cost asked_row

-- The three lines of costs are of the same two rows, and the bytes moved are those of the first row.
pub record LinesOf (classes : ℕ) (moved_row asked_row : List ℕ) (x : Summary) : Type 0 where
  pub by_linear : IsLine classes linear moved_row asked_row x.linear
  pub by_flat : IsLine classes flat moved_row asked_row x.flat
  pub by_seek : IsLine classes seek moved_row asked_row x.seek
  pub all : x.moved ≡ sum_below classes (slice_index moved_row)

-- what was moved is paid for by what was asked for, and by the potential of a book
abbrev pub IsPaidLine : ℕ → (ℕ → ℕ) → ℕ → List (List ℕ) → Cost → Type 0
IsPaidLine classes cost k grid line = line.moved ≤ factor k * line.asked + potential classes cost k grid

pub record ArePaidLines (classes k : ℕ) (grid : List (List ℕ)) (x : Summary) : Type 0 where
  pub by_linear : IsPaidLine classes linear k grid x.linear
  pub by_flat : IsPaidLine classes flat k grid x.flat
  pub by_seek : IsPaidLine classes seek k grid x.seek

-- All jobs were done, and were summed up with the bytes that the store's ledger has. What was moved is paid
-- for, and each byte of it weighs the same by the first cost. On a disk that tells its content the counts are
-- those of the replies, and the bytes asked for those of the changes that were done. The content opens to the
-- last checkpoint, and so does what a crash leaves. The changing calls are at most those of the jobs, and of
-- the bytes that were moved: one for each least size of an object of its class, and one for each 65,536
-- bytes.
pub record HasDone (classes : ℕ) (old : StoreValue) (jobs : List Request) (before now : disk.State)
    (x : Summary) : Type 0
  where
    pub new : StoreValue
    pub replies : List Reply
    pub states : List State
    pub ran : HasWorked classes old new jobs replies states before now
    pub requests : x.requests ≡ length jobs
    pub few : x.ok + x.kept + x.refused ≤ x.requests
    pub counts : IsTrue before.tells
        → CountsOf old.in_use.block.k replies (last_state (state_of old before.file) states) x
    pub ends : EndsAt new x
    pub lines : LinesOf classes new.moved new.asked x
    pub same : x.moved * 2 ^ (classes - 1) ≡ x.linear.moved
    pub asked : IsTrue before.tells → (d : ℕ)
        → slice_index new.asked d ≡ asked_in (state_of old before.file) jobs replies states d
    pub paid : ArePaidLines classes old.in_use.block.k old.book.grid x
    pub calls : IsTrue before.tells → now.turn
        ≤ before.turn + calls_in (state_of old before.file) jobs replies states
        + x.flat.moved / 2 ^ (classes - 1) + x.moved / 65536
    pub opens : IsTrue before.tells
        → OpensToKept classes (last_state (state_of old before.file) states) now.file
    pub all : IsTrue before.tells → RestsOnTable (base_of old) old.kept before → (image : List ℕ)
        → now.may_leave image → OpensToKept classes (last_state (state_of old before.file) states) image

-- The disk failed in a job, and those before it were done. What a crash may leave was left in a step of
-- those, or in the job that failed; and its sequence is at most the greatest that requests leave.
pub record HasStopped (classes : ℕ) (old : StoreValue) (jobs : List Request)
    (before now : disk.State) : Type 0 where
  pub done : List Request
  pub next : Request
  pub others : List Request
  pub split : jobs ≡ done ++ next ∷ others
  pub replies : List Reply
  pub states : List State
  pub chain : IsTrue before.tells
      → Chain (limits_of old) (state_of old before.file) done replies states
  pub left : IsTrue before.tells → RestsOnTable (base_of old) old.kept before
      → Leaves before now (λ image. IsRunImage classes old.in_use.block.k (base_of old)
      (state_of old before.file) states image ⊎ IsJobImage classes (base_of old) (limits_of old)
      (last_state (state_of old before.file) states) next image)
  pub numbered : IsTrue before.tells → RestsOnTable (base_of old) old.kept before
      → Leaves before now (HasSequenceUpTo (most_sequence old.in_use.block.k old.in_use.sequence))
  pub reach : IsTrue before.tells → (last_state (state_of old before.file) states).sequence
      ≤ most_sequence old.in_use.block.k old.in_use.sequence
  pub rose : Rose before.faults now.faults
  pub later : before.faults ≤ now.faults
  pub frame : KeepsDisk before now
