-- One more job of what does jobs, and all of them.
use Rattle.std.specs.Prelude.{◌≡◌, ℕ, ◌≤◌, List, [], ◌∷◌, ◌++◌, length, slice_index, Result, Ok, Err, IsTrue, refl}
use Rattle.std.proofs.Common.{ap, sym, ◌∙◌, subst, append-nil}
use Rattle.disk_face.specs.States as disk
use Rattle.map_model.specs.Requests.{Reply, Request}
use Rattle.store_model.proofs.StepLaws.{always}
use Rattle.store_model.specs.Connection.{IsConnected, StoreValue}
use Rattle.store_model.specs.Opened.{IsFresh}
use Rattle.ask_text.specs.declared.reply.Reply as text
use Rattle.ask_text.specs.declared.ends.End.{End}
use Rattle.ask_session.specs.Serving.{reply_at}
use Rattle.work_session.specs.Jobs.{Does, HasTally, no_tally, tally_with}
use Rattle.work_session.specs.Servers.{BecameAll, HasServed, IsServing, ServesJob, words_of}
use Rattle.work_session.specs.Works.{EndsAt, HasStopped, LinesOf}
use Rattle.work_session.specs.declared.summary.Summary.{Summary}
use Rattle.work_session.specs.declared.tally.Tally.{Tally}
use Rattle.work_session.proofs.WholeLaws.{has_done}
use Rattle.work_session.proofs.WorkingLaws.{working_more, working_none, working_stopped}

-- ---- a store

-- a store is known to be nothing more than its value, and becomes that
pub store_serves : {classes : ℕ} {r : Request} {s new : StoreValue} {a d : disk.State}
    {result : Result text.Reply End} → Does classes r s new a d result
    → ServesJob (words_of (λ s. s) (λ s d. Unit {0}) (λ s r reply t. Unit {0}) classes) r s new a d result
store_serves {classes} {r} {s} {new} {a} {d} {result} does = record {
  does = does;
  known = always result tt;
  became = always result (record { reply = reply_at s a.file r; same = λ told. refl; became = tt });
}

-- ---- one more job

became_more : {S : Type 0} (becomes : S → Request → Reply → S → Type 0) (s t u : S) (rs : List Request)
    (ys : List Reply) (r : Request) (y : Reply) → BecameAll becomes s rs ys t → becomes t r y u
    → BecameAll becomes s (rs ++ r ∷ []) (ys ++ y ∷ []) u
became_more {S} becomes s t u [] [] r y same more =
    (u, subst (λ (x : S). becomes x r y u) same more, refl)
became_more becomes s t u (q ∷ rs) (z ∷ ys) r y h more =
    (h.0, h.1, became_more becomes h.0 t u rs ys r y h.2 more)
became_more becomes s t u [] (z ∷ ys) r y h more = absurd (h)
became_more becomes s t u (q ∷ rs) [] r y h more = absurd (h)

module _ {S : Type 0} (store : S → StoreValue) (knows : S → disk.State → Type 0)
    (becomes : S → Request → Reply → S → Type 0) {classes : ℕ} where
  pub serving_none : (s : S) (all : List Request) (a : disk.State) → IsFresh classes (store s)
      → IsConnected classes (store s) a → IsTrue a.is_ready → knows s a
      → IsServing (words_of store knows becomes classes) s s all all a a no_tally
  serving_none s all a fresh over ready known = record {
    working = working_none (store s) all a fresh over ready;
    known = known;
    said = [];
    same = λ told. refl;
    became = refl;
  }

  module _ (old mid new : S) (all left : List Request) (r : Request) (a b d : disk.State) (t : Tally)
      (x : IsServing (words_of store knows becomes classes) old mid all (r ∷ left) a b t) where
    told_b : IsTrue a.tells → IsTrue b.tells
    told_b told = subst IsTrue (sym x.working.ran.frame.stays.told) told

    pub serving_more : (head : text.Reply)
        → ServesJob (words_of store knows becomes classes) r mid new b d (Ok head) → length all ≤ 1000001
        → IsServing (words_of store knows becomes classes) old new all left a d (tally_with t head)
    serving_more head job few = record {
      working = working_more (store old) (store mid) (store new) all left r a b d t x.working head job.does
          few;
      known = job.known;
      said = x.said ++ job.became.reply ∷ [];
      same = λ told. ap (λ (ys : List Reply). ys ++ job.became.reply ∷ []) (x.same told)
          ∙ ap (λ (y : Reply). x.working.replies ++ y ∷ []) (job.became.same (told_b told));
      became = became_more becomes old mid new x.working.jobs x.said r job.became.reply x.became
          job.became.became;
    }

    pub serving_stopped : (end : End) → ServesJob (words_of store knows becomes classes) r mid new b d
        (Err end)
        → HasStopped classes (store old) all a d
    serving_stopped end job =
        working_stopped (store old) (store mid) (store new) all left r a b d t x.working end job.does

  -- the same jobs are left
  pub as_left : {old new : S} {all xs ys : List Request} {a d : disk.State} {t : Tally}
      → IsServing (words_of store knows becomes classes) old new all xs a d t → xs ≡ ys
      → IsServing (words_of store knows becomes classes) old new all ys a d t
  as_left {old} {new} {all} {xs} {ys} {a} {d} {t} w same =
      subst (λ (rs : List Request). IsServing (words_of store knows becomes classes) old new all rs a d t)
      same w

  -- ---- all jobs

  pub has_served : (old new : S) (jobs : List Request) (a d : disk.State) (t : Tally) (x : Summary)
      → IsServing (words_of store knows becomes classes) old new jobs [] a d t → HasTally t (length jobs) x
      → EndsAt (store new) x → LinesOf classes (store new).moved (store new).asked x
      → ((c : ℕ) → classes ≤ c → slice_index (store new).moved c ≡ 0)
      → HasServed (words_of store knows becomes classes) old new jobs a d x
  has_served old new jobs a d t x w tally end lines zeros = record {
    done = has_done (store old) (store new) jobs a d t x w.working tally end lines zeros;
    said = w.said;
    same = w.same;
    became = subst (λ (rs : List Request). BecameAll becomes old rs w.said new)
        (sym (w.working.split ∙ append-nil w.working.jobs)) w.became;
  }
