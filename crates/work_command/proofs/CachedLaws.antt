-- How the jobs of a number went through a cache, and what its counts are.
use Rattle.std.specs.Prelude.{◌≡◌, ℕ, Bool, List, [], ◌∷◌, ◌++◌, length, OnErr, IsTrue, Some, Result, Ok, Err, refl}
use Rattle.std.proofs.Common.{arith, ap, sym, ◌∙◌, subst}
use Rattle.disk_face.specs.Counts.{HasCause}
use Rattle.disk_face.specs.Devices.{devices}
use Rattle.disk_face.specs.States.{State}
use Rattle.disk_face.specs.Streams.{Puts, SinkState}
use Rattle.size_class.specs.declared.TheConstants.{CLASSES}
use Rattle.map_model.specs.Requests.{Reply, Request}
use Rattle.store_model.specs.Connection.{StoreValue}
use Rattle.store_model.specs.Opened.{IsOpening}
use Rattle.command_face.specs.declared.stop.StopReason.{StopReason}
use Rattle.command_face.specs.declared.stop.StopReason.TheVariants as stop
use Rattle.read_cache.specs.CacheValues.{CacheValue}
use Rattle.read_cache.specs.Lists.{Listing, after_all, empty_listing}
use Rattle.read_cache.specs.Coherence.{IsCoherent}
use Rattle.work_session.specs.Servers.{BecameAll, BecomesCached, HasServed, words_of}
use Rattle.work_session.specs.Works.{HasStopped}
use Rattle.work_session.specs.declared.summary.Summary.{Summary}
use Rattle.work_command.specs.Asked.{NumberedJobs, TellsCache, jobs_numbered, jobs_of}
use Rattle.work_command.specs.Steps.{OpenWorkSteps}
use Rattle.work_command.specs.Summaries.{cache_lines, summary_text}
use Rattle.work_command.proofs.StepsLemmas.{steps_all, steps_stop}

-- ---- the list

-- the list after requests one after another, for some choice of drops
record Became (old new : Listing) (requests : List Request) (replies : List Reply) : Type 0 where
  drops : List Bool
  each : length drops ≡ length requests
  answered : length replies ≡ length requests
  is : new ≡ after_all drops requests replies old

became : (old new : CacheValue) (requests : List Request) (replies : List Reply)
    → BecameAll BecomesCached old requests replies new → Became old.list new.list requests replies
became old new [] [] same = record {
  drops = [];
  each = refl;
  answered = refl;
  is = ap (λ (c : CacheValue). c.list) same;
}
became old new (r ∷ requests) (y ∷ replies) h =
    let later = became h.0 new requests replies h.2 in
    record {
      drops = h.1.0 ∷ later.drops;
      each = omega (arith, later.each);
      answered = omega (arith, later.answered);
      is = later.is ∙ ap (λ (l : Listing). after_all later.drops requests replies l) h.1.1;
    }
became old new [] (y ∷ replies) h = absurd (h)
became old new (r ∷ requests) [] h = absurd (h)

-- the counts of what began empty
cache_told : (entries : ℕ) (old new : CacheValue) (requests : List Request) (replies : List Reply)
    (x : Summary) (text : List ℕ) → old.list ≡ empty_listing entries
    → BecameAll BecomesCached old requests replies new → text ≡ summary_text x ++ cache_lines new.list
    → TellsCache entries requests replies x text
cache_told entries old new requests replies x text empty all is =
    let h = became old new requests replies all in
    record {
      drops = h.drops;
      each = h.each;
      lines = is ∙ ap (λ (l : Listing). summary_text x ++ cache_lines l)
          (h.is ∙ ap (λ (l : Listing). after_all h.drops requests replies l) empty);
    }

-- ---- the steps

module _ {D : Type 0} (disk_of : D → State) (number count entries : ℕ) (first mid now : D)
    (out put : SinkState) (s : StoreValue) (old : CacheValue) (same : old.store ≡ s)
    (opening : IsOpening CLASSES (disk_of first) (disk_of mid) (Ok s)) where
  abbrev asked : NumberedJobs
  asked = jobs_numbered number count (Some entries)

  cached_opening : IsOpening CLASSES (disk_of first) (disk_of mid) (Ok old.store)
  cached_opening = subst (λ (x : StoreValue). IsOpening CLASSES (disk_of first) (disk_of mid) (Ok x))
      (sym same) opening

  pub cached_all : (new : CacheValue) (x : Summary) (text : List ℕ) (end : Result (Unit {0}) StopReason)
      → old.list ≡ empty_listing entries
      → HasServed (words_of (λ c. c.store) (λ c d. IsCoherent c.store c.list.pairs d) BecomesCached CLASSES)
      old new (jobs_of asked old.store) (disk_of mid) (disk_of now) x
      → text ≡ summary_text x ++ cache_lines new.list
      → (IsTrue out.tells → Puts out.given put.given text end) → OnErr end (end ≡ Err stop.Sink)
      → put.tells ≡ out.tells → HasCause out.faults put.faults end
      → OpenWorkSteps disk_of asked (devices (disk_of first) out) (devices (disk_of now) put) end
  cached_all new x text end empty served is puts only told cause =
      steps_all disk_of asked first mid now out put old.store cached_opening x text end served.done
      (λ was. subst (λ (ys : List Reply). TellsCache entries (jobs_of asked old.store) ys x text)
      (served.same was) told_said)
      (record {
        requests = jobs_of asked old.store;
        all = served.done.requests;
        replies = served.said;
        answered = (became old new (jobs_of asked old.store) served.said served.became).answered;
        tells = told_said;
      })
      puts only told cause
    where
      told_said : TellsCache entries (jobs_of asked old.store) served.said x text
      told_said = cache_told entries old new (jobs_of asked old.store) served.said x text empty
          served.became is

  pub cached_stop : HasStopped CLASSES old.store (jobs_of asked old.store) (disk_of mid) (disk_of now)
      → put ≡ out
      → OpenWorkSteps disk_of asked (devices (disk_of first) out) (devices (disk_of now) put) (Err stop.Disk)
  cached_stop stopped still = steps_stop disk_of asked first mid now out put old.store cached_opening stopped
      still
