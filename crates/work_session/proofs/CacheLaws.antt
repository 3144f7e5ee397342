-- What a job does that is done by a store behind a cache, and what the list becomes.
use Rattle.std.specs.Prelude.{◌≡◌, ℕ, Bool, true, false, ◌&&◌, ◌||◌, if◌then◌else◌, List, [], is_ok, is_some, Result, Ok, Err, IfSome, IsTrue, OnOk, refl}
use Rattle.std.proofs.Common.{ap, sym, ◌∙◌, subst}
use Rattle.disk_face.specs.Devices.{devices}
use Rattle.disk_face.specs.States as disk
use Rattle.disk_face.specs.Streams.{SinkState}
use Rattle.map_model.specs.Requests as ask
use Rattle.map_model.specs.Requests.{Change, Refused, Reply, Request}
use Rattle.store_model.specs.Connection.{IsConnected, StoreValue, limits_of, state_of}
use Rattle.store_model.specs.States.{Limits, State, Step, object_in, served}
use Rattle.store_model.specs.Stores.{IsStore}
use Rattle.store_model.specs.declared.answers.Done.{Done}
use Rattle.store_model.specs.declared.answers.Refusal.{Refusal}
use Rattle.store_model.specs.declared.answers.Refusal.TheVariants as why
use Rattle.store_model.specs.Answers as store
use Rattle.store_model.specs.Answers.{done_reply, refused_reply, reply_of}
use Rattle.store_model.specs.Changing.{IsChange}
use Rattle.store_model.specs.Readings.{IsRead}
use Rattle.store_model.proofs.StepLaws.{always}
use Rattle.store_model.specs.Keeps.{IsKeep}
use Rattle.read_cache.specs.CacheValues.{CacheValue}
use Rattle.read_cache.specs.Coherence.{IsCoherent}
use Rattle.read_cache.specs.Gets.{HasListed, ListsGet, is_sink, size_got}
use Rattle.read_cache.specs.declared.got.Got.{Got}
use Rattle.read_cache.specs.Lists.{Listing, after, after_hit, listed, without}
use Rattle.ask_text.specs.declared.reply.Reply as text
use Rattle.ask_text.specs.declared.reply.Reply.TheVariants as head
use Rattle.ask_text.specs.declared.ends.End.{End}
use Rattle.ask_session.specs.Ready.{CanServe}
use Rattle.ask_session.specs.ReplyLines.{answer_change, answer_of}
use Rattle.ask_session.specs.Serving.{reply_at}
use Rattle.work_session.specs.Jobs.{Does}
use Rattle.work_session.specs.Servers.{BecomesCached, IsSaid, ServesJob, words_of}
use Rattle.work_session.proofs.DoesLaws.{change_does, get_gives, get_stops, keep_does}
use Rattle.work_session.proofs.DoneLaws.{IsShortChange}

-- ---- what the list becomes

-- a request, with the reply that was given where it is told
abbrev Said : Type 0 → Request → Reply → CacheValue → CacheValue → Type 0
Said told r given old new = IsSaid BecomesCached told r given old new

-- by a reply that leaves it
left_by : (told : Type 0) (old new : CacheValue) (r : Request) (x given : Reply) → (told → x ≡ given)
    → after false r x old.list ≡ old.list → new.list ≡ old.list → Said told r given old new
left_by told old new r x given is leaves same =
    record { reply = x; same = is; became = (false, same ∙ sym leaves) }

module _ (limits : Limits) (s t : State) (told : Type 0) (old new : CacheValue) where
  -- what is replied to a request
  abbrev given : Request → Reply
  given r = (served limits s r).reply

  -- by a refusal
  refused_becomes : (r : Request) (w : Refusal)
      → ((v : Refused) → after false r (ask.refused v) old.list ≡ old.list)
      → (is_sink w ≡ false → new.list ≡ old.list)
      → (told → IfSome (refused_reply w) (λ reply. Step limits s r reply t))
      → OnOk (answer_of w) (Said told r (given r) old new)
  refused_becomes r why.BadName leaves same step = left_by told old new r (ask.refused ask.bad_name) (given r)
      (λ is. (step is).replied) (leaves ask.bad_name) (same refl)
  refused_becomes r why.TooLong leaves same step = left_by told old new r (ask.refused ask.too_long) (given r)
      (λ is. (step is).replied) (leaves ask.too_long) (same refl)
  refused_becomes r why.Missing leaves same step = left_by told old new r (ask.refused ask.missing) (given r)
      (λ is. (step is).replied) (leaves ask.missing) (same refl)
  refused_becomes r why.Damaged leaves same step = left_by told old new r (ask.refused ask.damaged) (given r)
      (λ is. (step is).replied) (leaves ask.damaged) (same refl)
  refused_becomes r why.Full leaves same step = left_by told old new r (ask.refused ask.full) (given r)
      (λ is. (step is).replied) (leaves ask.full) (same refl)
  refused_becomes r why.Worn leaves same step = left_by told old new r (ask.refused ask.worn) (given r)
      (λ is. (step is).replied) (leaves ask.worn) (same refl)
  refused_becomes r why.TooMany leaves same step = tt
  refused_becomes r why.Sink leaves same step = tt
  refused_becomes r why.Disk leaves same step = tt
  refused_becomes r why.Broken leaves same step = tt

  -- by a change
  pub change_becomes : (c : Change) (result : Result Done Refusal)
      → new.list ≡ (if is_ok result then without c.name old.list else old.list)
      → (told → IfSome (reply_of done_reply result) (λ reply. Step limits s (ask.change c) reply t))
      → OnOk (answer_change result) (Said told (ask.change c) (given (ask.change c)) old new)
  change_becomes c (Ok done) list step = record {
    reply = done_reply done;
    same = λ is. (step is).replied;
    became = (false, list ∙ sym (accepted done.kept));
  }
    where
      accepted : (b : Bool) → after false (ask.change c) (if b then ask.kept else ask.done) old.list
          ≡ without c.name old.list
      accepted true = refl
      accepted false = refl
  change_becomes c (Err w) list step = refused_becomes (ask.change c) w (λ v. refl) (λ is. list) step

  -- by a get that was answered
  pub got_becomes : (name object : List ℕ) (got : Got) → HasListed told name object old.list new.list got
      → (told → Step limits s (ask.get name) (ask.found object) t)
      → Said told (ask.get name) (given (ask.get name)) old new
  got_becomes name object got h step = record {
    reply = ask.found h.bytes;
    same = λ is. ap (λ (bytes : List ℕ). ask.found bytes) (h.same is) ∙ (step is).replied;
    became = (h.dropped, h.list);
  }

  -- by one that wasn't
  pub get_becomes : (name object : List ℕ) (w : Refusal)
      → ListsGet told name object old.list new.list (Err w)
      → (told → IfSome (refused_reply w) (λ reply. Step limits s (ask.get name) reply t))
      → OnOk (answer_of w) (Said told (ask.get name) (given (ask.get name)) old new)
  get_becomes name object w list step = refused_becomes (ask.get name) w (λ v. refl) (λ no. list
      ∙ ap (λ (b : Bool). if b && is_some (listed old.list name) then after_hit name old.list
      else old.list) no)
      step

-- a keep leaves it, whatever it is answered
kept_by : (reply : Reply) (l : Listing) → after false ask.keep reply l ≡ l
kept_by ask.done l = refl
kept_by ask.kept l = refl
kept_by (ask.found object) l = refl
kept_by (ask.refused w) l = refl
kept_by (ask.listed entries) l = refl
kept_by (ask.counts names bytes kept_names kept_bytes) l = refl

-- ---- its jobs

module _ {classes : ℕ} (old new : CacheValue) (a d : disk.State) (h : CanServe classes old.store a) where
  -- a job of the cache
  abbrev Serves : Request → Result text.Reply End → Type 0
  Serves r out = ServesJob (words_of (λ c. c.store) (λ c d. IsCoherent c.store c.list.pairs d)
      BecomesCached classes) r
      old new a d out

  module _ (coherent : IsCoherent new.store new.list.pairs d)
      (sound : new.store.is_broken ≡ false → IsStore classes new.store) where
    pub change_serves : (c : Change) (result : Result Done Refusal) → IsShortChange c
        → IsChange classes c old.store new.store a d result
        → (old.store.is_broken ≡ false → IsTrue a.tells → IfSome (reply_of done_reply result) (λ reply. Step
        (limits_of old.store) (state_of old.store a.file) (ask.change c) reply (state_of new.store d.file)))
        → new.list ≡ (if is_ok result then without c.name old.list else old.list)
        → Serves (ask.change c) (answer_change result)
    change_serves c result short change step list = record {
      does = change_does old.store new.store c a d result h short change step sound;
      known = always (answer_change result) coherent;
      became = change_becomes (limits_of old.store) (state_of old.store a.file) (state_of new.store d.file)
          (IsTrue a.tells) old new c result list (step h.whole);
    }

    pub keep_serves : (result : Result Done Refusal) → IsKeep classes old.store new.store a d result
        → (old.store.is_broken ≡ false → IsTrue a.tells → IfSome (reply_of done_reply result) (λ reply. Step
        (limits_of old.store) (state_of old.store a.file) ask.keep reply (state_of new.store d.file)))
        → IsConnected classes new.store d
        → new.store.is_broken ≡ (old.store.is_broken || store.is_disk_fault result)
        → new.list ≡ old.list → Serves ask.keep (answer_change result)
    keep_serves result keep step over broken list = record {
      does = keep_does old.store new.store a d h result keep step over broken sound;
      known = always (answer_change result) coherent;
      became = always (answer_change result) (left_by (IsTrue a.tells) old new ask.keep
          (reply_at old.store a.file ask.keep) (reply_at old.store a.file ask.keep) (λ told. refl)
          (kept_by (reply_at old.store a.file ask.keep) old.list) list);
    }

  module _ (name : List ℕ) (coherent : IsCoherent new.store new.list.pairs d) (out after : SinkState) where
    abbrev IsGet : Result Got Refusal → Type 0
    IsGet result = IsRead (ask.get name) [] old.store new.store (devices a out) (devices d after)
        (size_got result)

    abbrev Lists : Result Got Refusal → Type 0
    Lists result = ListsGet (IsTrue a.tells) name (object_in (state_of old.store a.file).map name) old.list
        new.list result

    pub get_serves : (got : Got) → IsGet (Ok got) → Lists (Ok got)
        → Serves (ask.get name) (Ok (head.Data got.size))
    get_serves got read list = record {
      does = subst (λ (x : StoreValue). Does classes (ask.get name) old.store x a d (Ok (head.Data got.size)))
          (sym read.store)
          (get_gives old.store a d name h read.frame (state_of new.store d.file) got.size read.answer
          (read.disk_cause.calm (λ is. absurd (cc))) (read.step h.whole));
      known = coherent;
      became = got_becomes (limits_of old.store) (state_of old.store a.file) (state_of new.store d.file)
          (IsTrue a.tells) old new name (object_in (state_of old.store a.file).map name) got list
          (read.step h.whole);
    }

    pub get_refuses : (w : Refusal) → IsGet (Err w) → Lists (Err w) → (w ≡ why.Sink → ⊥)
        → Serves (ask.get name) (answer_of w)
    get_refuses w read list no_sink = record {
      does = subst (λ (x : StoreValue). Does classes (ask.get name) old.store x a d (answer_of w))
          (sym read.store)
          (get_stops old.store a d name h read.frame (state_of new.store d.file) w read.answer
          read.disk_cause no_sink (read.step h.whole));
      known = always (answer_of w) coherent;
      became = get_becomes (limits_of old.store) (state_of old.store a.file) (state_of new.store d.file)
          (IsTrue a.tells) old new name (object_in (state_of old.store a.file).map name) w list
          (read.step h.whole);
    }
