-- Steps that leave the state, and the facts on which refusals depend.
use Rattle.std.specs.Prelude.{◌≡◌, ℕ, List, Option, Some, None, option_map, is_some, refl, Bool, true, false, if◌then◌else◌, Result, Ok, Err, IfSome, OnOk}
use Rattle.std.proofs.Common.{arith, ap, sym, ◌∙◌, subst, inl, inr}
use Rattle.std.specs.FinMap as fin
use Rattle.map_model.specs.Requests as ask
use Rattle.map_model.specs.Requests.{Refused, Reply, Request}
use Rattle.segment_layout.specs.Books.{version_of}
use Rattle.extent_table.specs.declared.spot.Spot.{Spot}
use Rattle.placement_model.specs.Reads.{AreNamed, object_at}
use Rattle.placement_model.proofs.ReadLaws.{get-read_at}
use Rattle.store_model.specs.Stores.{IsStanding, IsStore}
use Rattle.store_model.specs.States.{Facts, Limits, State, Served, Step, accepted, facts_of, name_of, refusal, served, unchanged}
use Rattle.store_model.specs.Connection.{IsOver, StoreValue, base_of, limits_of, state_of}
use Rattle.store_model.specs.Answers.{AnswersRead, facts_at, refusal_for, refused_by, refused_reply, reply_of}
use Rattle.store_model.specs.declared.answers.Refusal.{Refusal}
use Rattle.store_model.specs.declared.answers.Refusal.TheVariants as why
use Rattle.store_model.proofs.RequestLaws.{served_by}
use Rattle.store_model.proofs.StateLaws.{listing-read_at, volume-read_at}
use Rattle.store_model.proofs.StoreLaws.{kept_lies, now_lies}
use Rattle.store_model.specs.Lines.{listing_of}
use Rattle.extent_table.specs.Extents.{volume_of}
use Rattle.placement_model.proofs.EntryLaws.{len-read_at}

-- a request whose reply leaves the state and makes no checkpoint
stays : (limits : Limits) (s : State) (r : Request) (reply : Reply) → served limits s r ≡ unchanged s reply
    → Step limits s r reply s
stays limits s r reply is = record {
  replied = ap (λ (x : Served). x.reply) (sym is);
  state = ap (λ (x : Served). record x.state { sequence = s.sequence }) (sym is);
  low = omega (arith, ap (λ (x : Served). x.saves.least) is);
  high = omega (arith, ap (λ (x : Served). x.saves.most) is);
}

-- a request that is refused
pub refused_step : (limits : Limits) (s : State) (r : Request) (why : Refused)
    → refusal limits (facts_of s r) r ≡ Some why → Step limits s r (ask.refused why) s
refused_step limits s r why is = stays limits s r (ask.refused why) (served_by limits s r (Some why) is)

-- a request that asks and changes nothing
pub accepted_step : (limits : Limits) (s : State) (r : Request) (reply : Reply)
    → refusal limits (facts_of s r) r ≡ None → accepted limits s r ≡ unchanged s reply
    → Step limits s r reply s
accepted_step limits s r reply is same = stays limits s r reply (served_by limits s r None is ∙ same)

there_still : (base : ℕ) (file : List ℕ) (o : Option Spot)
    → is_some (option_map (object_at base file) o) ≡ is_some o
there_still base file None = refl
there_still base file (Some s) = refl

-- the facts of a state are those of the places
pub facts_same : (s : StoreValue) (file : List ℕ) (r : Request) → AreNamed s.now → AreNamed s.kept
    → facts_of (state_of s file) r ≡ facts_at s r
facts_same s file r now kept = λ i. record {
  is_live = (ap is_some (get-read_at (base_of s) file s.now now (name_of r))
      ∙ there_still (base_of s) file (fin.get s.now (name_of r))) i;
  is_kept = (ap is_some (get-read_at (base_of s) file s.kept kept (name_of r))
      ∙ there_still (base_of s) file (fin.get s.kept (name_of r))) i;
  count = len-read_at (base_of s) file s.now now i;
  version = version_of s.book;
  sequence = s.in_use.sequence;
}

-- ---- answers

-- each refusal of a request has its reply
pub refused_replied : (limits : Limits) (s : State) (r : Request) (w : Refused)
    → refusal limits (facts_of s r) r ≡ Some w
    → IfSome (refused_reply (refusal_for w)) (λ reply. Step limits s r reply s)
refused_replied limits s r w is = each w (refused_step limits s r w is)
  where
    each : (x : Refused) → Step limits s r (ask.refused x) s
        → IfSome (refused_reply (refusal_for x)) (λ reply. Step limits s r reply s)
    each ask.bad_name step = step
    each ask.too_long step = step
    each ask.missing step = step
    each ask.damaged step = step
    each ask.full step = step
    each ask.worn step = step

replies_refused : (limits : Limits) (s : State) (r : Request) (reply : Reply) (n : ℕ)
    (result : Result ℕ Refusal) (why : Refused) → refusal limits (facts_of s r) r ≡ Some why
    → result ≡ Err (refusal_for why)
    → IfSome (reply_of (λ (m : ℕ). reply) result) (λ x. Step limits s r x s)
replies_refused limits s r reply n result why is answer =
    subst (λ (x : Result ℕ Refusal). IfSome (reply_of (λ (m : ℕ). reply) x) (λ x. Step limits s r x s))
    (sym answer)
    (refused_replied limits s r why is)

-- the reply to a read, by whether the object is damaged
abbrev pub read_reply : Bool → Reply → Reply
read_reply damaged reply = if damaged then ask.refused ask.damaged else reply

replies_read : (limits : Limits) (s : State) (r : Request) (reply : Reply) (n : ℕ) (damaged : Bool)
    (result : Result ℕ Refusal) → Step limits s r (read_reply damaged reply) s
    → OnOk result (damaged ≡ false) → (result ≡ Err why.Damaged → damaged ≡ true) → AnswersRead None n result
    → IfSome (reply_of (λ (m : ℕ). reply) result) (λ x. Step limits s r x s)
replies_read limits s r reply n damaged result step fine bad (inl is) = subst
    (λ (x : Result ℕ Refusal). IfSome (reply_of (λ (m : ℕ). reply) x) (λ x. Step limits s r x s)) (sym is)
    (subst (λ (b : Bool). Step limits s r (read_reply b reply) s)
    (subst (λ (x : Result ℕ Refusal). OnOk x (damaged ≡ false)) is fine) step)
replies_read limits s r reply n damaged result step fine bad (inr (inl is)) = subst
    (λ (x : Result ℕ Refusal). IfSome (reply_of (λ (m : ℕ). reply) x) (λ x. Step limits s r x s)) (sym is) tt
replies_read limits s r reply n damaged result step fine bad (inr (inr (inl is))) = subst
    (λ (x : Result ℕ Refusal). IfSome (reply_of (λ (m : ℕ). reply) x) (λ x. Step limits s r x s)) (sym is) tt
replies_read limits s r reply n damaged result step fine bad (inr (inr (inr is))) = subst
    (λ (x : Result ℕ Refusal). IfSome (reply_of (λ (m : ℕ). reply) x) (λ x. Step limits s r x s)) (sym is)
    (subst (λ (b : Bool). Step limits s r (read_reply b reply) s) (bad is) step)

-- a read is a step with the reply of its answer
pub read_step : (s after : StoreValue) (file now : List ℕ) (r : Request) (reply : Reply) (n : ℕ)
    (damaged : Bool) (result : Result ℕ Refusal) → s.is_broken ≡ false → IsStanding s → after ≡ s
    → now ≡ file
    → accepted (limits_of s) (state_of s file) r ≡ unchanged (state_of s file) (read_reply damaged reply)
    → (refused_by s r ≡ None → OnOk result (damaged ≡ false))
    → (refused_by s r ≡ None → result ≡ Err why.Damaged → damaged ≡ true)
    → AnswersRead (refused_by s r) n result
    → IfSome (reply_of (λ (m : ℕ). reply) result)
    (λ x. Step (limits_of s) (state_of s file) r x (state_of after now))
read_step s after file now r reply n damaged result whole sound same_store same_file serves fine bad answer =
    subst (λ (x : StoreValue). IfSome (reply_of (λ (m : ℕ). reply) result)
    (λ y. Step (limits_of s) (state_of s file) r y (state_of x now))) (sym same_store)
    (subst (λ (x : List ℕ). IfSome (reply_of (λ (m : ℕ). reply) result)
    (λ y. Step (limits_of s) (state_of s file) r y (state_of s x))) (sym same_file)
    (elim (refusal (limits_of s) (facts_at s r) r)
    as (λ o. refusal (limits_of s) (facts_at s r) r ≡ o → AnswersRead (option_map refusal_for o) n result
    → IfSome (reply_of (λ (m : ℕ). reply) result)
    (λ x. Step (limits_of s) (state_of s file) r x (state_of s file))) [
      | None ↦ λ is a. replies_read (limits_of s) (state_of s file) r reply n damaged result
          (accepted_step (limits_of s) (state_of s file) r (read_reply damaged reply) (facts ∙ is) serves)
          (fine (served is)) (bad (served is)) a
      | Some why ↦ λ is a. replies_refused (limits_of s) (state_of s file) r reply n result why (facts ∙ is) a
    ] refl (subst (λ (b : Bool). AnswersRead (if b then Some why.Broken
    else option_map refusal_for (refusal (limits_of s) (facts_at s r) r)) n result) whole answer)))
  where
    facts : refusal (limits_of s) (facts_of (state_of s file) r) r ≡ refusal (limits_of s) (facts_at s r) r
    facts = ap (λ (f : Facts). refusal (limits_of s) f r)
        (facts_same s file r sound.now_named sound.kept_named)

    served : refusal (limits_of s) (facts_at s r) r ≡ None → refused_by s r ≡ None
    served is = ap (λ (b : Bool). if b then Some why.Broken
        else option_map refusal_for (refusal (limits_of s) (facts_at s r) r)) whole
        ∙ ap (option_map refusal_for) is

-- ---- lists and numbers

-- what holds in any case holds at Ok
pub always : {A E : Type 0} {P : Type 0} (result : Result A E) → P → OnOk result P
always (Ok x) is = is
always (Err e) is = tt

pub list_step : {classes : ℕ} (s : StoreValue) (file : List ℕ) → IsStore classes s → IsOver classes s file
    → Step (limits_of s) (state_of s file) ask.list (ask.listed (listing_of s.now)) (state_of s file)
list_step s file h over = accepted_step (limits_of s) (state_of s file) ask.list
    (ask.listed (listing_of s.now)) refl (ap (λ (es : List (List ℕ × ℕ)). unchanged (state_of s file)
    (ask.listed es)) (listing-read_at (base_of s) file s.now h.now.named (now_lies s file h over)))

pub stat_step : {classes : ℕ} (s : StoreValue) (file : List ℕ) (names bytes kept_names kept_bytes : ℕ)
    → IsStore classes s → IsOver classes s file → names ≡ fin.len s.now → bytes ≡ volume_of s.now
    → kept_names ≡ fin.len s.kept → kept_bytes ≡ volume_of s.kept
    → Step (limits_of s) (state_of s file) ask.stat (ask.counts names bytes kept_names kept_bytes)
    (state_of s file)
stat_step s file names bytes kept_names kept_bytes h over n b kn kb =
    accepted_step (limits_of s) (state_of s file) ask.stat (ask.counts names bytes kept_names kept_bytes) refl
    (λ i. unchanged (state_of s file) (ask.counts
    ((len-read_at (base_of s) file s.now h.now.named ∙ sym n) i)
    ((volume-read_at (base_of s) file s.now h.now.named (now_lies s file h over) ∙ sym b) i)
    ((len-read_at (base_of s) file s.kept h.kept.named ∙ sym kn) i)
    ((volume-read_at (base_of s) file s.kept h.kept.named (kept_lies s file h over) ∙ sym kb) i)))
