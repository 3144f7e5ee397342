-- Replies to requests, by what was answered and put.
use Rattle.std.specs.Prelude.{◌≡◌, ◌≢◌, ◌⊎◌, ℕ, ◌+◌, Bool, true, false, ◌&&◌, List, ◌++◌, codes, Option, Some, None, Result, Ok, Err, IfErr, IfOk, IsTrue, refl}
use Rattle.std.proofs.Common.{ap, sym, ◌∙◌, subst, inl, inr, append-nil}
use Rattle.disk_face.specs.Devices.{devices}
use Rattle.disk_face.specs.States as disk
use Rattle.disk_face.specs.Frames.{Unchanged}
use Rattle.disk_face.specs.Streams.{SinkState}
use Rattle.slot_pair.specs.Finding.{HasDiskCause}
use Rattle.map_model.specs.Requests as ask
use Rattle.map_model.specs.Requests.{Reply, Request}
use Rattle.store_model.specs.declared.answers.Refusal.{Refusal}
use Rattle.store_model.specs.declared.answers.Refusal.TheVariants as why
use Rattle.store_model.specs.Answers.{AnswersList, AnswersRead}
use Rattle.data_area.specs.Causes.{HasSinkCause}
use Rattle.store_model.specs.Connection.{StoreValue}
use Rattle.data_area.proofs.CauseLaws.{calm_sink, disk_cause_as, sink_cause_as}
use Rattle.ask_text.specs.Replies.{first_line, reply_line_of, reply_text}
use Rattle.ask_text.specs.declared.reply.Reply as text
use Rattle.ask_text.specs.declared.reply.Reply.TheVariants as head
use Rattle.ask_text.specs.declared.ends.End.{End}
use Rattle.ask_text.specs.declared.ends.End.TheVariants as ends
use Rattle.ask_session.specs.Putting.{PutsAnswer}
use Rattle.ask_session.specs.ReplyLines.{Answers, fault_of, is_kept}
use Rattle.ask_session.specs.Serving.{IsServingFault, PutsText, Replies, Serves, acknowledges, is_changing, is_disk, is_disk_fault, reply_at}
use Rattle.ask_session.proofs.PutLaws.{puts_as, puts_none}
use Rattle.ask_session.specs.Ready.{CanServe}
use Rattle.ask_session.proofs.ServingLaws.{StaysAt, serves_same}

-- what is served depends on the disk's fault alone
pub serves_as : {T U : Type 0} {classes : ℕ} (r : Request) (s new : StoreValue) (a d : disk.State)
    (x : Result T End) (y : Result U End) → is_disk_fault x ≡ is_disk_fault y → Serves classes r s new a d x
    → Serves classes r s new a d y
serves_as r s new a d x y same h = record {
  step = λ told calm. h.step told (same ∙ calm);
  block = λ calm. h.block (same ∙ calm);
  calls = λ told calm least. h.calls told (same ∙ calm) least;
  reads = λ asks fault. h.reads asks (same ∙ fault);
  still = h.still;
  over = h.over;
  broken = h.broken ∙ ap (λ (b : Bool). is_changing r && b) same;
  left = h.left;
  rests = h.rests;
  frame = h.frame;
}

kept_head : (reply : Reply) → is_kept (reply_line_of reply) ≡ acknowledges reply
kept_head ask.done = refl
kept_head ask.kept = refl
kept_head (ask.found object) = refl
kept_head (ask.refused why) = refl
kept_head (ask.listed entries) = refl
kept_head (ask.counts names bytes kept_names kept_bytes) = refl

-- where a head acknowledges a checkpoint and is put whole, that is the line
kept_line : (x : text.Reply) → is_kept x ≡ true → first_line x ≡ codes "ok kept\n"
kept_line head.Kept is = refl
kept_line head.Ok is = absurd (cc)
kept_line (head.Data size) is = absurd (cc)
kept_line (head.Refused why) is = absurd (cc)
kept_line (head.List count) is = absurd (cc)
kept_line (head.Stat names bytes kept_names kept_bytes) is = absurd (cc)

said_of : (x : text.Reply) (result : Result Bool End) (before after : List ℕ) → result ≡ Ok true
    → IfOk result (λ kept. kept ≡ is_kept x) → PutsText (first_line x) before after result
    → after ≡ before ++ codes "ok kept\n"
said_of x (Err end) before after is kept puts = absurd (cc)
said_of x (Ok answer) before after is kept puts =
    let true_is : answer ≡ true = (cc) in
    puts.all ∙ ap (λ (xs : List ℕ). before ++ xs) (kept_line x (sym kept ∙ true_is))

unsaid : (result : Result Bool End) → IfOk result (λ kept. kept ≡ false) → result ≡ Ok true → ⊥
unsaid (Err end) kept is = absurd (cc)
unsaid (Ok answer) kept is = absurd (let e : Ok false ≡ Ok true = ap (λ (b : Bool). Ok b) (sym kept)
    ∙ is in cc)

pub sink_calm : {T : Type 0} (result : Result T End) → IfErr result (λ end. end ≡ ends.Sink)
    → is_disk_fault result ≡ false
sink_calm (Ok x) is = refl
sink_calm (Err end) is = ap is_disk is

-- an answer that is no fault of the disk
pub no_disk_fault : {T : Type 0} (result : Result T End) → is_disk_fault result ≡ false
    → result ≢ Err ends.Disk
no_disk_fault result calm is = let e : true ≡ false = sym (ap is_disk_fault is) ∙ calm in absurd (cc)

-- a fault of the disk is none of the sink
no_sink_fault : {T : Type 0} (result : Result T End) → is_disk_fault result ≡ true → result ≢ Err ends.Sink
no_sink_fault result fault is = let e : true ≡ false = sym fault ∙ ap is_disk_fault is in absurd (cc)

pub sink_serving : {T : Type 0} (result : Result T End) → IfErr result (λ end. end ≡ ends.Sink)
    → IfErr result IsServingFault
sink_serving (Ok x) is = tt
sink_serving (Err end) is = subst IsServingFault (sym is) tt

if_ok_with : {A E : Type 0} {P Q : A → Type 0} (result : Result A E) → ((x : A) → P x → Q x) → IfOk result P
    → IfOk result Q
if_ok_with (Ok x) f p = f x p
if_ok_with (Err e) f p = tt

pub answers_replies : {classes : ℕ} (r : Request) (s new : StoreValue) (a d : disk.State)
    (out after : SinkState)
    (answer : Result text.Reply End) (result : Result Bool End) → Answers classes r s new a d answer
    → PutsAnswer out after answer result → Replies classes r s new (devices a out) (devices d after) result
answers_replies r s new a d out after (Ok x) result h p = record {
  serves = serves_as r s new a d (Ok x) result (sym calm) h.serves;
  kept = λ told. if_ok_with result (λ kept is. is ∙ ap is_kept (h.replied told)
      ∙ kept_head (reply_at s a.file r)) p.kept;
  puts = λ told sink. puts_as (first_line x) (reply_text (reply_at s a.file r)) out.given after.given result
      (ap first_line (h.replied told) ∙ sym (append-nil (first_line (reply_line_of (reply_at s a.file r))))
      ∙ ap (λ (xs : List ℕ). first_line (reply_line_of (reply_at s a.file r))
      ++ xs) (sym (h.line told))) (p.put sink);
  said = λ sink is. said_of x result out.given after.given is p.kept (p.put sink);
  nothing = λ sink changing fault. absurd (let e : true ≡ false = sym fault ∙ calm in cc);
  only = sink_serving result p.only;
  disk_cause = disk_cause_as h.disk_cause (λ is. absurd (no_disk_fault result calm is)) (λ is. absurd (cc));
  sink_cause = p.cause;
}
  where
    calm : is_disk_fault result ≡ false
    calm = sink_calm result p.only
answers_replies {classes} r s new a d out after (Err end) result h p =
    subst (λ (x : Result Bool End). Replies classes r s new (devices a out) (devices d after) x)
    (sym p.ended) (record {
      serves = serves_as r s new a d (Err end) (Err end) refl h.serves;
      kept = λ told. tt;
      puts = λ told sink. puts_none (reply_text (reply_at s a.file r)) out.given after.given end p.same;
      said = λ sink is. absurd (cc);
      nothing = λ sink changing fault. p.same;
      only = subst IsServingFault (sym h.only) tt;
      disk_cause = disk_cause_as h.disk_cause (λ is. ap (λ (x : End). Err x) h.only)
          (λ is. ap (λ (x : End). Err x) h.only);
      sink_cause = calm_sink (λ is. no_sink_fault (Err end) (ap is_disk h.only) is) p.faults p.told;
    })

-- what is answered for a request whose reply is one line
pub answered_as : {classes : ℕ} {r : Request} {s new : StoreValue} {a d : disk.State}
    {answer said : Result text.Reply End} → answer ≡ said → Answers classes r s new a d said
    → Answers classes r s new a d answer
answered_as {classes} {r} {s} {new} {a} {d} is h =
    subst (λ (x : Result text.Reply End). Answers classes r s new a d x) (sym is) h

-- the reply to a request that is this one
pub replied_as : {classes : ℕ} {r asked : Request} {s new : StoreValue} {a d : disk.State}
    {out after : SinkState} {answer : Result text.Reply End} {result : Result Bool End} → r ≡ asked
    → Answers classes asked s new a d answer → PutsAnswer out after answer result
    → Replies classes r s new (devices a out) (devices d after) result
replied_as {classes} {r} {asked} {s} {new} {a} {d} {out} {after} {answer} {result} is h p =
    subst (λ (x : Request). Replies classes x s new (devices a out) (devices d after) result) (sym is)
    (answers_replies asked s new a d out after answer result h p)

-- ---- reads

pub reads_replies : {classes : ℕ} (r : Request) (s : StoreValue) (a d : disk.State) (out after : SinkState)
    (result : Result Bool End) → CanServe classes s a → is_changing r ≡ false → Unchanged a d
    → (IsTrue a.tells → StaysAt s a.file r) → (IsTrue a.tells → acknowledges (reply_at s a.file r) ≡ false)
    → IfOk result (λ kept. kept ≡ false)
    → (IsTrue a.tells → IsTrue out.tells
    → PutsText (reply_text (reply_at s a.file r)) out.given after.given result)
    → IfErr result IsServingFault → HasDiskCause ends.Disk a.faults d.faults result
    → HasSinkCause ends.Sink out after result
    → Replies classes r s s (devices a out) (devices d after) result
reads_replies r s a d out after result h asks same stays plain kept puts only disk_cause sink_cause = record {
  serves = serves_same s r a d result h same stays (ap (λ (b : Bool). b && is_disk_fault result) asks);
  kept = λ told. if_ok_with result (λ x is. is ∙ sym (plain told)) kept;
  puts = puts;
  said = λ sink is. absurd (unsaid result kept is);
  nothing = λ sink changing fault. absurd (let e : true ≡ false = sym changing ∙ asks in cc);
  only = only;
  disk_cause = disk_cause;
  sink_cause = sink_cause;
}

-- ---- faults of a read

-- which faults a read has that isn't refused, where the object isn't damaged
read_fault : (o : Option Refusal) (n : ℕ) (x : Refusal) → o ≡ None → x ≢ why.Damaged → AnswersRead o n (Err x)
    → (x ≡ why.Disk) ⊎ (x ≡ why.Sink)
read_fault None n x is fine (inl e) = absurd (cc)
read_fault None n x is fine (inr (inl e)) = inl (cc)
read_fault None n x is fine (inr (inr (inl e))) = inr (cc)
read_fault None n x is fine (inr (inr (inr e))) = absurd (fine (cc))
read_fault (Some y) n x is fine answer = absurd (cc)

module _ (o : Option Refusal) (n : ℕ) (x : Refusal) (served : o ≡ None) (fine : x ≢ why.Damaged)
    (answer : AnswersRead o n (Err x)) where
  pub fault_serving : IsServingFault (fault_of x)
  fault_serving = elim (read_fault o n x served fine answer) as (λ _. IsServingFault (fault_of x)) [
    | inl e ↦ subst (λ (y : Refusal). IsServingFault (fault_of y)) (sym e) tt
    | inr e ↦ subst (λ (y : Refusal). IsServingFault (fault_of y)) (sym e) tt
  ]

  by_disk : fault_of x ≡ ends.Disk → x ≡ why.Disk
  by_disk is = elim (read_fault o n x served fine answer) as (λ _. x ≡ why.Disk) [
    | inl e ↦ e
    | inr e ↦ absurd (let f : ends.Sink ≡ ends.Disk = sym (ap fault_of e) ∙ is in cc)
  ]

  by_sink : fault_of x ≡ ends.Sink → x ≡ why.Sink
  by_sink is = elim (read_fault o n x served fine answer) as (λ _. x ≡ why.Sink) [
    | inl e ↦ absurd (let f : ends.Disk ≡ ends.Sink = sym (ap fault_of e) ∙ is in cc)
    | inr e ↦ e
  ]

  pub fault_disk : {T U : Type 0} {before now : ℕ} → HasDiskCause {T = T} why.Disk before now (Err x)
      → HasDiskCause {T = U} ends.Disk before now (Err (fault_of x))
  fault_disk cause = disk_cause_as cause
      (λ is. let f : fault_of x ≡ ends.Disk = (cc) in ap (λ (y : Refusal). Err y) (by_disk f))
      (λ is. let e : x ≡ why.Disk = (cc) in ap (λ (y : Refusal). Err (fault_of y)) e)

  pub fault_sink : {T U : Type 0} {before now : SinkState} → HasSinkCause {T = T} why.Sink before now (Err x)
      → HasSinkCause {T = U} ends.Sink before now (Err (fault_of x))
  fault_sink cause = sink_cause_as cause
      (λ is. let f : fault_of x ≡ ends.Sink = (cc) in ap (λ (y : Refusal). Err y) (by_sink f))
      (λ is. let e : x ≡ why.Sink = (cc) in ap (λ (y : Refusal). Err (fault_of y)) e)

-- a list of a store that refuses nothing fails by the sink alone
pub list_fault : (o : Option Refusal) (x : Refusal) → o ≡ None → AnswersList {T = Unit {0}} o (Err x)
    → x ≡ why.Sink
list_fault None x is (inl ok) = absurd (let h = ok in cc)
list_fault None x is (inr e) = (cc)
list_fault (Some y) x is answer = absurd (cc)
