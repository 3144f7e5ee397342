-- What does jobs, a store or one behind a cache: what it is known by between two jobs, and what it becomes.
use Rattle.std.specs.Prelude.{◌≡◌, ℕ, Bool, List, [], ◌∷◌, Result, IsTrue, OnOk}
use Rattle.disk_face.specs.States as disk
use Rattle.map_model.specs.Requests.{Reply, Request}
use Rattle.store_model.specs.Connection.{IsConnected, StoreValue}
use Rattle.store_model.specs.Opened.{IsFresh}
use Rattle.read_cache.specs.CacheValues.{CacheValue}
use Rattle.read_cache.specs.Lists.{after}
use Rattle.ask_text.specs.declared.reply.Reply as text
use Rattle.ask_text.specs.declared.ends.End.{End}
use Rattle.ask_session.specs.Serving.{reply_at}
use Rattle.work_session.specs.declared.summary.Summary.{Summary}
use Rattle.work_session.specs.declared.tally.Tally.{Tally}
use Rattle.work_session.specs.Works.{HasDone}
use Rattle.work_session.specs.Jobs.{Does, IsWorking}

-- ---- what it becomes

-- A cache becomes one whose list is as after the request that was answered so; it isn't said whether a miss
-- was a drop.
abbrev pub BecomesCached : CacheValue → Request → Reply → CacheValue → Type 0
BecomesCached old r reply new = (dropped : Bool) × (new.list ≡ after dropped r reply old.list)

-- by requests one after another, with what each was answered
abbrev pub BecameAll : {S : Type 0} → (S → Request → Reply → S → Type 0) → S → List Request → List Reply → S
    → Type 0
BecameAll {S} becomes old (r ∷ requests) (reply ∷ replies) new = (mid : S) × becomes old r reply mid
    × BecameAll becomes mid requests replies new
BecameAll becomes old [] [] new = new ≡ old
BecameAll becomes old [] (reply ∷ replies) new = ⊥
BecameAll becomes old (r ∷ requests) [] new = ⊥

-- ---- its jobs

-- One became another by a request, as some reply says: the reply that was given, where that is told.
pub record IsSaid {S : Type 0} (becomes : S → Request → Reply → S → Type 0) (told : Type 0) (r : Request)
    (given : Reply) (old new : S) : Type 0 where
  pub reply : Reply
  pub same : told → reply ≡ given
  pub became : becomes old r reply new

-- What is said of a server of so many classes: its store, what is known of it and of its disk between two
-- jobs, and what it becomes by a request that was answered so.
pub record ServerWords (S : Type 0) : Type 1 where
  pub store : S → StoreValue
  pub knows : S → disk.State → Type 0
  pub becomes : S → Request → Reply → S → Type 0
  pub classes : ℕ

abbrev pub words_of : {S : Type 0} → (S → StoreValue) → (S → disk.State → Type 0)
    → (S → Request → Reply → S → Type 0) → ℕ → ServerWords S
words_of store knows becomes classes =
    record { store = store; knows = knows; becomes = becomes; classes = classes }

-- One may begin with its jobs: its disk is ready and has its store, of which nothing was saved since it was
-- opened.
pub record MayServe {S : Type 0} (s : ServerWords S) (server : S) (d : disk.State) : Type 0 where
  pub ready : IsTrue d.is_ready
  pub over : IsConnected s.classes (s.store server) d
  pub fresh : IsFresh s.classes (s.store server)
  pub knows : s.knows server d

-- One does a job by its store. What it knows of the disk it knows again, and it became what a reply says.
pub record ServesJob {S : Type 0} (s : ServerWords S) (r : Request) (old new : S) (before now : disk.State)
    (result : Result text.Reply End) : Type 0 where
  pub does : Does s.classes r (s.store old) (s.store new) before now result
  pub known : OnOk result (s.knows new now)
  pub became : OnOk result
      (IsSaid s.becomes (IsTrue before.tells) r (reply_at (s.store old) before.file r) old new)

-- Of a list of jobs it did the first, and counted them.
pub record IsServing {S : Type 0} (s : ServerWords S) (old new : S) (all left : List Request)
    (before now : disk.State) (t : Tally) : Type 0 where
  pub working : IsWorking s.classes (s.store old) (s.store new) all left before now t
  pub known : s.knows new now
  pub said : List Reply
  pub same : IsTrue before.tells → said ≡ working.replies
  pub became : BecameAll s.becomes old working.jobs said new

-- It did all jobs, and became what some replies say: those that were given, where the disk tells its content.
pub record HasServed {S : Type 0} (s : ServerWords S) (old new : S) (jobs : List Request)
    (before now : disk.State) (x : Summary) : Type 0 where
  pub done : HasDone s.classes (s.store old) jobs before now x
  pub said : List Reply
  pub same : IsTrue before.tells → said ≡ done.replies
  pub became : BecameAll s.becomes old jobs said new
