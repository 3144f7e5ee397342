-- What one job does, and what is known of a store between two jobs.
use Rattle.std.specs.Prelude.{◌≡◌, ℕ, ◌+◌, ◌*◌, ◌%◌, ◌<◌, ◌≤◌, List, ◌++◌, length, slice_index, sum_by, Result, IfErr, IfOk, IsTrue, OnOk}
use Rattle.disk_face.specs.States as disk
use Rattle.slot_pair.specs.Finding.{HasDiskCause}
use Rattle.size_class.specs.Classes.{width}
use Rattle.size_class.specs.declared.TheConstants.{SIZE_MAX}
use Rattle.map_model.specs.Requests as ask
use Rattle.map_model.specs.Requests.{Request}
use Rattle.placement_model.specs.Limits.{most_bytes}
use Rattle.flush_run.specs.Calls.{move_calls, risen}
use Rattle.move_cost.specs.Costs.{IsCost, potential}
use Rattle.store_model.specs.Connection.{StoreValue, state_of}
use Rattle.store_model.specs.States.{State}
use Rattle.store_model.specs.Stores.{IsStore}
use Rattle.store_costs.specs.Paid.{HasOpenLedger, HasPaid}
use Rattle.ask_text.specs.Replies.{reply_line_of}
use Rattle.ask_text.specs.declared.reply.Reply.{Reply}
use Rattle.ask_text.specs.declared.reply.Reply.TheVariants as head
use Rattle.ask_text.specs.declared.ends.End.{End}
use Rattle.ask_text.specs.declared.ends.End.TheVariants as ends
use Rattle.ask_session.specs.Serving.{Serves, reply_at}
use Rattle.work_maker.specs.declared.job.Job.{Job}
use Rattle.work_maker.specs.declared.job.Job.TheVariants as job
use Rattle.work_session.specs.declared.summary.Summary.{Summary}
use Rattle.work_session.specs.declared.tally.Tally.{Tally}
use Rattle.work_session.specs.Counts.{asked_by, asked_in, calls_by, calls_in, kept_of, ok_of, read_of, refused_of}
use Rattle.work_session.specs.Works.{HasWorked}

-- ---- objects

-- bytes that count up from 0, each modulo 256: as many as an object of 8,192 bytes reaches that begins at one
-- of the first 256
pub record IsPattern (bytes : List ℕ) : Type 0 where
  pub long : length bytes ≡ 8447
  pub each : (j : ℕ) → j < 8447 → slice_index bytes j ≡ j % 256

-- a put is of at most 8,192 bytes
abbrev pub IsShort : Job → Type 0
IsShort (job.Put name size first) = size ≤ 8192
IsShort (job.Del name) = Unit {0}
IsShort (job.Get name) = Unit {0}
IsShort job.Keep = Unit {0}

-- ---- one job

-- a get gives at most so many bytes: no object of a store has more
abbrev pub most_read : ℕ
most_read = SIZE_MAX

-- in one job no class of the ledger rises by more
abbrev pub most_rise : ℕ
most_rise = 2 * most_bytes

abbrev pub read_head : Reply → ℕ
read_head (head.Data size) = size
read_head _ = 0

-- What a job that was done adds to the ledger, on any disk; and on one that tells its content what it asks
-- for, and the calls that it makes.
pub record Charges (classes : ℕ) (r : Request) (old new : StoreValue) (before now : disk.State) : Type 0 where
  pub moved_few : (d : ℕ) → slice_index new.moved d ≤ slice_index old.moved d + most_rise
  pub asked_few : (d : ℕ) → slice_index new.asked d ≤ slice_index old.asked d + most_rise
  pub later : HasOpenLedger new → (d : ℕ) → slice_index old.moved d ≤ slice_index new.moved d
  pub asked : IsTrue before.tells → HasOpenLedger new → (d : ℕ) → slice_index new.asked d
      ≡ slice_index old.asked d + asked_by (state_of old before.file) r (reply_at old before.file r) d
  pub paid : HasOpenLedger new → (cost : ℕ → ℕ) (first : ℕ) → IsCost classes cost
      → HasPaid classes cost first old → HasPaid classes cost first new
  pub calls : IsTrue before.tells → HasOpenLedger new → now.turn ≤ before.turn
      + calls_by (state_of old before.file) (state_of new now.file) r (reply_at old before.file r)
      + move_calls (risen old.moved new.moved)

-- What a job does, and how the reply to it begins.
pub record Does (classes : ℕ) (r : Request) (old new : StoreValue) (before now : disk.State)
    (result : Result Reply End) : Type 0 where
  pub serves : Serves classes r old new before now result
  pub sound : OnOk result (IsStore classes new)
  pub replied : IsTrue before.tells → IfOk result (λ reply. reply
      ≡ reply_line_of (reply_at old before.file r))
  pub small : IfOk result (λ reply. read_head reply ≤ most_read)
  pub charges : length old.asked ≡ width → OnOk result (Charges classes r old new before now)
  pub only : IfErr result (λ end. end ≡ ends.Disk)
  pub cause : HasDiskCause ends.Disk before.faults now.faults result

-- ---- counting

abbrev pub no_tally : Tally
no_tally = record { ok = 0; kept = 0; read = 0; refused = 0 }

abbrev pub tally_with : Tally → Reply → Tally
tally_with t head.Ok = record t { ok = t.ok + 1 }
tally_with t head.Kept = record t { kept = t.kept + 1 }
tally_with t (head.Data size) = record t { read = t.read + size }
tally_with t (head.Refused why) = record t { refused = t.refused + 1 }
tally_with t (head.List count) = t
tally_with t (head.Stat names bytes kept_names kept_bytes) = t

-- it counts these replies
pub record TallyOf (replies : List ask.Reply) (t : Tally) : Type 0 where
  pub ok : t.ok ≡ sum_by ok_of replies
  pub kept : t.kept ≡ sum_by kept_of replies
  pub read : t.read ≡ sum_by read_of replies
  pub refused : t.refused ≡ sum_by refused_of replies

-- a summary has these counts
pub record HasTally (t : Tally) (requests : ℕ) (x : Summary) : Type 0 where
  pub all : x.requests ≡ requests
  pub ok : x.ok ≡ t.ok
  pub kept : x.kept ≡ t.kept
  pub read : x.read ≡ t.read
  pub refused : x.refused ≡ t.refused

-- ---- between two jobs

-- The ledger after so many jobs of a store that was opened. What they asked for and how many calls they made
-- is said of a disk that tells its content.
pub record HasLedger (classes : ℕ) (old new : StoreValue) (jobs : List Request) (replies : List ask.Reply)
    (states : List State) (before now : disk.State) : Type 0 where
  pub moved_few : (d : ℕ) → slice_index new.moved d ≤ length jobs * most_rise
  pub asked_few : (d : ℕ) → slice_index new.asked d ≤ length jobs * most_rise
  pub asked : IsTrue before.tells → (d : ℕ)
      → slice_index new.asked d ≡ asked_in (state_of old before.file) jobs replies states d
  pub paid : (cost : ℕ → ℕ) → IsCost classes cost
      → HasPaid classes cost (potential classes cost old.in_use.block.k old.book.grid) new
  pub calls : IsTrue before.tells → now.turn
      ≤ before.turn + calls_in (state_of old before.file) jobs replies states + move_calls new.moved

-- Of a list of jobs the first were done, and counted.
pub record IsWorking (classes : ℕ) (old new : StoreValue) (all left : List Request) (before now : disk.State)
    (t : Tally) : Type 0 where
  pub jobs : List Request
  pub replies : List ask.Reply
  pub states : List State
  pub split : all ≡ jobs ++ left
  pub ran : HasWorked classes old new jobs replies states before now
  pub counts : IsTrue before.tells → TallyOf replies t
  pub few : t.ok + t.kept + t.refused ≤ length jobs
  pub read_few : t.read ≤ length jobs * most_read
  pub ledger : HasLedger classes old new jobs replies states before now
