-- Requests whose reply is one line: what the answers of the store stand for.
use Rattle.std.specs.Prelude.{◌≡◌, ◌⊎◌, ℕ, ◌+◌, ◌*◌, ◌≤◌, Bool, true, false, not, ◌&&◌, ◌||◌, if◌then◌else◌, List, [], Option, Some, None, option_map, Result, Ok, Err, IfSome, IsNone, IsSome, IsTrue, OnErr, OnOk, refl}
use Rattle.std.proofs.Common.{arith, rules, ap, sym, ◌∙◌, subst, inl, inr}
use Rattle.std.proofs.Math.Bool.{and-false}
use Rattle.std.specs.FinMap as fin
use Rattle.slot_pair.specs.Saves.{save_calls}
use Rattle.disk_face.specs.Counts.{HasCause, counted}
use Rattle.disk_face.specs.States as disk
use Rattle.disk_face.specs.Frames.{Unchanged}
use Rattle.disk_face.specs.Moments.{Leaves}
use Rattle.disk_face.specs.Writes.{KeepsDisk}
use Rattle.disk_face.proofs.MomentLaws.{Leaves-weaken}
use Rattle.map_model.specs.Requests as ask
use Rattle.map_model.specs.Requests.{Change, Refused, Reply, Request}
use Rattle.segment_layout.specs.Books.{is_quiet, next_book}
use Rattle.table_rules.proofs.SequenceLaws.{sequence_wider}
use Rattle.store_model.specs.declared.answers.Refusal.{Refusal}
use Rattle.store_model.specs.declared.answers.Refusal.TheVariants as why
use Rattle.store_model.specs.declared.answers.Done.{Done}
use Rattle.store_model.specs.Answers.{AnswersChange, done_reply, facts_at, refusal_for, refused_by, reply_of}
use Rattle.store_model.specs.Answers as store
use Rattle.store_model.specs.Changes.{IsQuietChange, NothingChanged}
use Rattle.store_model.specs.Changing.{IsChange}
use Rattle.store_model.specs.Connection.{IsConnected, StoreValue, RestsOnTable, base_of, limits_of, state_of}
use Rattle.store_model.specs.Flushes.{IsFlush}
use Rattle.store_model.specs.Keeps.{AnswersKeep, KeepsNow}
use Rattle.store_model.specs.Quiet.{charges_of, quiet_calls}
use Rattle.store_model.specs.States.{Served, Step, accepted, facts_of, refusal, served_change}
use Rattle.store_model.proofs.AnsweredLaws.{refusal_at, refused_is}
use Rattle.data_area.proofs.CauseLaws.{calm_disk}
use Rattle.store_model.proofs.QuietLaws.{quiet_by_book}
use Rattle.store_model.proofs.RequestLaws.{served_by}
use Rattle.ask_text.specs.Replies.{reply_line_of, rest_of, told_for}
use Rattle.ask_text.specs.declared.reply.Reply.TheVariants as head
use Rattle.ask_session.specs.ReplyLines.{Answers, answer_change, answer_of, done_reply_line}
use Rattle.ask_session.specs.Serving.{IsServingImage, calls_of, is_changing, served_at}
use Rattle.ask_session.specs.Ready.{CanServe}
use Rattle.ask_session.proofs.ServingLaws.{kept_is_serving, refused_stays, same_length_loose, serves_same}

-- ---- refused

and_true : (b c : Bool) → b ≡ true → (b && c) ≡ c
and_true true c is = refl
and_true false c is = absurd (cc)

-- the reply of a refusal
refused_answer : (w : Refused) → answer_change (Err (refusal_for w)) ≡ Ok (head.Refused (told_for w))
refused_answer ask.bad_name = refl
refused_answer ask.too_long = refl
refused_answer ask.missing = refl
refused_answer ask.damaged = refl
refused_answer ask.full = refl
refused_answer ask.worn = refl

-- the head that is answered for a refusal
pub refused_head : {classes : ℕ} (s : StoreValue) (r : Request) (w : Refused) (a d : disk.State)
    → CanServe classes s a
    → refusal (limits_of s) (facts_at s r) r ≡ Some w → Unchanged a d → d.faults ≡ a.faults
    → Answers classes r s s a d (Ok (head.Refused (told_for w)))
refused_head s r w a d h is same calm = record {
  serves = serves_same s r a d (Ok (head.Refused (told_for w))) h same
      (λ told. (refused_stays s a.file r w h.sound is).0) (and-false (is_changing r));
  replied = λ told. ap reply_line_of (sym (refused_stays s a.file r w h.sound is).1);
  line = λ told. ap rest_of (refused_stays s a.file r w h.sound is).1;
  only = tt;
  disk_cause = calm_disk (λ is. absurd (cc)) calm;
}

-- a change that is refused
refused_change : {classes : ℕ} (s new : StoreValue) (r : Request) (w : Refused) (a d : disk.State)
    (result : Result Done Refusal) → CanServe classes s a → refusal (limits_of s) (facts_at s r) r ≡ Some w
    → result ≡ Err (refusal_for w) → NothingChanged s new a d
    → Answers classes r s new a d (answer_change result)
refused_change {classes} s new r w a d result h is answer same =
    subst (λ (x : StoreValue). Answers classes r s x a d (answer_change result)) (sym same.same_store)
    (subst (λ (x : Result _ _). Answers classes r s s a d x) (sym (ap answer_change answer
    ∙ refused_answer w))
    (refused_head s r w a d h is same.same_disk same.same_faults))

-- ---- served

-- What a change leaves that isn't refused: it was done, or the disk failed.
pub record IsMade (classes : ℕ) (r : Request) (s new : StoreValue) (a d : disk.State)
    (result : Result Done Refusal)
    : Type 0 where
  pub changing : is_changing r ≡ true
  pub either : (OnOk result (Unit {0}) × OnErr result ⊥) ⊎ (result ≡ Err why.Disk)
  pub step : IsTrue a.tells → IfSome (reply_of done_reply result) (λ reply. Step (limits_of s)
      (state_of s a.file) r reply (state_of new d.file))
  pub block : OnOk result (new.in_use.block ≡ s.in_use.block)
  pub calls : IsTrue a.tells → OnOk result ((served_at s a.file r).saves.least ≡ 0
      → d.turn ≡ counted a.turn (calls_of (limits_of s) (state_of s a.file) r))
  pub over : IsConnected classes new d
  pub broken : new.is_broken ≡ store.is_disk_fault result
  pub left : IsTrue a.tells → RestsOnTable (base_of s) s.kept a
      → Leaves a d (IsServingImage classes s r a.file)
  pub rests : IsTrue a.tells → RestsOnTable (base_of s) s.kept a
      → OnOk result (RestsOnTable (base_of new) new.kept d)
  pub frame : KeepsDisk a d
  pub cause : HasCause a.faults d.faults result

head_of_done : (x : Done) → reply_line_of (done_reply x) ≡ done_reply_line x
head_of_done x = by x.kept
  where
    by : (b : Bool) → reply_line_of (if b then ask.kept else ask.done) ≡ (if b then head.Kept else head.Ok)
    by true = refl
    by false = refl

rest_of_done : (x : Done) → rest_of (done_reply x) ≡ []
rest_of_done x = by x.kept
  where
    by : (b : Bool) → rest_of (if b then ask.kept else ask.done) ≡ []
    by true = refl
    by false = refl

pub is_made : {classes : ℕ} (s new : StoreValue) (r : Request) (a d : disk.State)
    (result : Result Done Refusal)
    → IsMade classes r s new a d result → Answers classes r s new a d (answer_change result)
is_made s new r a d (Ok x) m = record {
  serves = record {
    step = λ told calm. subst (λ (y : Reply). Step (limits_of s) (state_of s a.file) r y
        (state_of new d.file))
        (m.step told).replied (m.step told);
    block = λ calm. m.block;
    calls = λ told calm least. m.calls told least;
    reads = λ asks fault. absurd (cc);
    still = λ asks. absurd (let e : true ≡ false = sym m.changing ∙ asks in cc);
    over = m.over;
    broken = m.broken ∙ sym (and-false (is_changing r));
    left = m.left;
    rests = λ told whole rests. m.rests told rests;
    frame = m.frame;
  };
  replied = λ told. sym (head_of_done x) ∙ ap reply_line_of (m.step told).replied;
  line = λ told. ap rest_of (sym (m.step told).replied) ∙ rest_of_done x;
  only = tt;
  disk_cause = calm_disk (λ is. absurd (cc)) m.cause.calm;
}
is_made {classes} s new r a d (Err refused) m = elim m.either as (λ _. Answers classes r s new a d
    (answer_of refused)) [
      | inl x ↦ absurd (x.1)
      | inr x ↦
          let e : refused ≡ why.Disk = (cc) in
          subst (λ (y : Refusal). Answers classes r s new a d (answer_of y)) (sym e)
          (failed (m.broken ∙ ap store.is_disk e))
    ]
  where
    failed : new.is_broken ≡ true → Answers classes r s new a d (answer_of why.Disk)
    failed broken = record {
      serves = record {
        step = λ told calm. absurd (cc);
        block = λ calm. absurd (cc);
        calls = λ told calm least. absurd (cc);
        reads = λ asks fault. absurd (let e : true ≡ false = sym m.changing ∙ asks in cc);
        still = λ asks. absurd (let e : true ≡ false = sym m.changing ∙ asks in cc);
        over = m.over;
        broken = broken ∙ sym (and_true (is_changing r) true m.changing);
        left = m.left;
        rests = λ told whole rests. absurd (let e : true ≡ false = sym broken ∙ whole in cc);
        frame = m.frame;
      };
      replied = λ told. tt;
      line = λ told. tt;
      only = refl;
      disk_cause = record {
        later = m.cause.later;
        rose = λ is. m.cause.rose;
        calm = λ other. absurd (other refl);
      };
    }

-- ---- changes

pub on_ok : {A E P Q : Type 0} (result : Result A E) → (P → Q) → OnOk result P → OnOk result Q
on_ok (Ok x) f p = f p
on_ok (Err e) f p = tt

pub none_is : (o : Option Refusal) → o ≡ None → IsNone o
none_is None is = search rules
none_is (Some x) is = absurd (cc)

-- one of two answers
pub either_answer : (result : Result Done Refusal) (x : Done) → (result ≡ Ok x) ⊎ (result ≡ Err why.Disk)
    → (OnOk result (Unit {0}) × OnErr result ⊥) ⊎ (result ≡ Err why.Disk)
either_answer (Ok y) x is = inl (tt, tt)
either_answer (Err e) x (inl is) = absurd (cc)
either_answer (Err e) x (inr is) = inr is

-- a change that is accepted, by whether it is quiet
quiet_calls_are : (s : StoreValue) (file : List ℕ) (c : Change)
    → refusal (limits_of s) (facts_of (state_of s file) (ask.change c)) (ask.change c) ≡ None
    → (next_book s.in_use.block.k (state_of s file).map s.book c).quiet ≡ true
    → calls_of (limits_of s) (state_of s file) (ask.change c) ≡ quiet_calls c
quiet_calls_are s file c found quiet = rw (found, quiet) refl

record IsFlushed (s : StoreValue) (file : List ℕ) (c : Change) (x : Served) : Type 0 where
  pub least : x.saves.least ≡ 1
  pub most : x.saves.most ≡ 2 * s.in_use.block.k + 1
  pub map : x.state.map ≡ ask.changed c (state_of s file).map
  pub book : x.state.book ≡ (next_book s.in_use.block.k (state_of s file).map s.book c).book

flushed_change : (s : StoreValue) (file : List ℕ) (c : Change)
    → (next_book s.in_use.block.k (state_of s file).map s.book c).quiet ≡ false
    → IsFlushed s file c (served_change (limits_of s) (state_of s file) c)
flushed_change s file c quiet = record {
  least = rw quiet refl;
  most = rw quiet refl;
  map = rw quiet refl;
  book = rw quiet refl;
}

flushed_at : (s : StoreValue) (file : List ℕ) (c : Change)
    → refusal (limits_of s) (facts_of (state_of s file) (ask.change c)) (ask.change c) ≡ None
    → (next_book s.in_use.block.k (state_of s file).map s.book c).quiet ≡ false
    → IsFlushed s file c (served_at s file (ask.change c))
flushed_at s file c found quiet = subst (IsFlushed s file c)
    (sym (served_by (limits_of s) (state_of s file) (ask.change c) None found))
    (flushed_change s file c quiet)

module _ {classes : ℕ} (s new : StoreValue) (c : Change) (a d : disk.State) (result : Result Done Refusal)
    (h : CanServe classes s a) (accepted : refusal (limits_of s) (facts_at s (ask.change c)) (ask.change c)
    ≡ None)
    (answer : (result ≡ Ok (record { kept = not (is_quiet (charges_of s c)) })) ⊎ (result ≡ Err why.Disk))
    (step : IsTrue a.tells → IfSome (reply_of done_reply result) (λ reply. Step (limits_of s)
    (state_of s a.file) (ask.change c) reply (state_of new d.file)))
    (over : IsConnected classes new d) (broken : new.is_broken ≡ store.is_disk_fault result) where
  found : refusal (limits_of s) (facts_of (state_of s a.file) (ask.change c)) (ask.change c) ≡ None
  found = refusal_at s a.file (ask.change c) h.sound ∙ accepted

  quiet_made : is_quiet (charges_of s c) ≡ true → IsQuietChange classes c s new a d result
      → IsMade classes (ask.change c) s new a d result
  quiet_made quiet q = record {
    changing = refl;
    either = either_answer result _ answer;
    step = step;
    block = on_ok result (λ v. ap (λ (x : StoreValue). x.in_use.block) v.rest) q.value;
    calls = λ told. on_ok result (λ turn least. turn ∙ ap (λ (n : ℕ). counted a.turn n)
        (sym (quiet_calls_are s a.file c found (quiet_by_book classes s a.file c h.sound (h.over told)
        ∙ quiet))))
        q.calls.all;
    over = over;
    broken = broken;
    left = λ told rests. Leaves-weaken (IsServingImage classes s (ask.change c) a.file) (λ image is.
        kept_is_serving s (ask.change c) a.file image h.sound (h.over told) is) (q.left told rests);
    rests = λ told rests. on_ok result (λ v.
        subst (λ (x : StoreValue). RestsOnTable (base_of x) x.kept d) (sym v.rest)
        (q.rests told rests)) q.value;
    frame = q.frame;
    cause = q.calls.cause;
  }

  flush_made : is_quiet (charges_of s c) ≡ false → IsFlush classes c s new a d result
      → IsMade classes (ask.change c) s new a d result
  flush_made quiet f = record {
    changing = refl;
    either = either_answer result _ answer;
    step = step;
    block = on_ok result (λ v. v.same_block) f.value;
    calls = λ told. on_ok result (λ v least. absurd (omega (arith, least, (flushed told).least))) f.value;
    over = over;
    broken = broken;
    left = λ told rests. Leaves-weaken (IsServingImage classes s (ask.change c) a.file) (λ image is. record {
      opens = elim is.opens as (λ _. _) [
        | inl kept ↦ inl kept
        | inr now ↦ inr (
          omega (arith, (flushed told).least),
          rw (
            (flushed told).map,
            (flushed told).book,
          ) now,
        )
      ];
      sequence = sequence_wider (s.in_use.sequence + 2 * s.in_use.block.k + 1)
          (s.in_use.sequence + (served_at s a.file (ask.change c)).saves.most) image
          (omega (arith, (flushed told).most)) is.sequence;
      loose = rw (flushed told).map is.loose;
    }) (f.left told rests);
    rests = λ told rests. f.on_table told;
    frame = f.frame;
    cause = f.cause;
  }
    where
      flushed : IsTrue a.tells → IsFlushed s a.file c (served_at s a.file (ask.change c))
      flushed told = flushed_at s a.file c found (quiet_by_book classes s a.file c h.sound (h.over told)
          ∙ quiet)

-- a put or a del
pub change_answers : {classes : ℕ} (s new : StoreValue) (c : Change) (a d : disk.State)
    (result : Result Done Refusal) → CanServe classes s a → IsChange classes c s new a d result
    → (s.is_broken ≡ false → IsTrue a.tells → IfSome (reply_of done_reply result) (λ reply. Step (limits_of s)
    (state_of s a.file) (ask.change c) reply (state_of new d.file)))
    → Answers classes (ask.change c) s new a d (answer_change result)
change_answers {classes} s new c a d result h x step =
    by (refusal (limits_of s) (facts_at s (ask.change c)) (ask.change c)) refl
  where
    broken_now : new.is_broken ≡ store.is_disk_fault result
    broken_now = x.broken ∙ ap (λ (b : Bool). b || store.is_disk_fault result) h.whole

    answer_at : (o : Option Refused) → refusal (limits_of s) (facts_at s (ask.change c)) (ask.change c) ≡ o
        → AnswersChange (is_quiet (charges_of s c)) (option_map refusal_for o) result
    answer_at o is = subst (λ (y : Option Refusal). AnswersChange (is_quiet (charges_of s c)) y result)
        (refused_is s (ask.change c) o h.whole is) x.answer

    by_quiet : (q : Bool) → is_quiet (charges_of s c) ≡ q
        → refusal (limits_of s) (facts_at s (ask.change c)) (ask.change c) ≡ None
        → IsMade classes (ask.change c) s new a d result
    by_quiet true q is = quiet_made s new c a d result h is (answer_at None is) (step h.whole) x.over
        broken_now q (x.quiet (none_is _ (refused_is s (ask.change c) None h.whole is)) q)
    by_quiet false q is = flush_made s new c a d result h is (answer_at None is) (step h.whole) x.over
        broken_now q (x.flush (none_is _ (refused_is s (ask.change c) None h.whole is)) q)

    by : (o : Option Refused) → refusal (limits_of s) (facts_at s (ask.change c)) (ask.change c) ≡ o
        → Answers classes (ask.change c) s new a d (answer_change result)
    by None is = is_made s new (ask.change c) a d result (by_quiet (is_quiet (charges_of s c)) refl is)
    by (Some w) is = refused_change s new (ask.change c) w a d result h is (answer_at (Some w) is)
        (x.refused (subst (λ (o : Option Refusal). IsSome o) (sym (refused_is s (ask.change c)
        (Some w) h.whole is)) refl))

-- ---- keep

keep_made : {classes : ℕ} (s new : StoreValue) (a d : disk.State) (result : Result Done Refusal)
    → CanServe classes s a → refusal (limits_of s) (facts_at s ask.keep) ask.keep ≡ None
    → (result ≡ Ok (record { kept = true })) ⊎ (result ≡ Err why.Disk)
    → (IsTrue a.tells → IfSome (reply_of done_reply result) (λ reply. Step (limits_of s)
    (state_of s a.file) ask.keep reply (state_of new d.file)))
    → IsConnected classes new d → new.is_broken ≡ store.is_disk_fault result
    → KeepsNow classes s new a d result → IsMade classes ask.keep s new a d result
keep_made {classes} s new a d result h is answer step over broken k = record {
  changing = refl;
  either = either_answer result _ answer;
  step = step;
  block = on_ok result (λ v. ap (λ (x : StoreValue). x.in_use.block) v) k.value;
  calls = λ told. on_ok result (λ v least. absurd (omega (
    arith,
    least,
    ap (λ (x : Served). x.saves.least)
        (served_is told),
  )))
      k.value;
  over = over;
  broken = broken;
  left = λ told rests. Leaves-weaken (IsServingImage classes s ask.keep a.file) (λ image e. record {
    opens = elim e.opens as (λ _. _) [
      | inl kept ↦ inl kept
      | inr now ↦ inr (
        omega (arith, ap (λ (x : Served). x.saves.least) (served_is told)),
        rw
            (served_is told) now,
      )
    ];
    sequence = sequence_wider (s.in_use.sequence + 1)
        (s.in_use.sequence + (served_at s a.file ask.keep).saves.most) image
        (omega (arith, ap (λ (x : Served). x.saves.most) (served_is told))) e.sequence;
    loose = same_length_loose s ask.keep a.file image h.sound (h.over told) e.same_length;
  }) (k.left told rests);
  rests = λ told rests. k.on_table told;
  frame = k.frame;
  cause = k.calls.cause;
}
  where
    served_is : IsTrue a.tells
        → served_at s a.file ask.keep ≡ accepted (limits_of s) (state_of s a.file) ask.keep
    served_is told = served_by (limits_of s) (state_of s a.file) ask.keep None
        (refusal_at s a.file ask.keep h.sound ∙ is)

pub keep_answers : {classes : ℕ} (s new : StoreValue) (a d : disk.State) (result : Result Done Refusal)
    → CanServe classes s a → AnswersKeep (refused_by s ask.keep) result
    → (IsSome (refused_by s ask.keep) → NothingChanged s new a d)
    → (IsNone (refused_by s ask.keep) → KeepsNow classes s new a d result)
    → (s.is_broken ≡ false → IsTrue a.tells → IfSome (reply_of done_reply result) (λ reply. Step (limits_of s)
    (state_of s a.file) ask.keep reply (state_of new d.file)))
    → IsConnected classes new d → new.is_broken ≡ (s.is_broken || store.is_disk_fault result)
    → Answers classes ask.keep s new a d (answer_change result)
keep_answers {classes} s new a d result h answer refused keeps step over broken =
    by (refusal (limits_of s) (facts_at s ask.keep) ask.keep) refl
  where
    by : (o : Option Refused) → refusal (limits_of s) (facts_at s ask.keep) ask.keep ≡ o
        → Answers classes ask.keep s new a d (answer_change result)
    by None is = is_made s new ask.keep a d result (keep_made s new a d result h is
        (subst (λ (o : Option Refusal). AnswersKeep o result) (refused_is s ask.keep None h.whole is) answer)
        (step h.whole) over (broken ∙ ap (λ (b : Bool). b || store.is_disk_fault result) h.whole)
        (keeps (none_is _ (refused_is s ask.keep None h.whole is))))
    by (Some w) is = refused_change s new ask.keep w a d result h is
        (subst (λ (o : Option Refusal). AnswersKeep o result) (refused_is s ask.keep
        (Some w) h.whole is) answer)
        (refused (subst (λ (o : Option Refusal). IsSome o) (sym (refused_is s ask.keep
        (Some w) h.whole is)) refl))

-- the calls of a keep are those of a save
pub keep_calls : {classes : ℕ} (s new : StoreValue) (a d : disk.State) (result : Result Done Refusal)
    (o : Option Refusal) → (IsSome o → NothingChanged s new a d)
    → (IsNone o → KeepsNow classes s new a d result) → d.turn ≤ a.turn + save_calls (fin.len s.now)
keep_calls s new a d result None refused keeps = omega (arith, (keeps refl).calls.most)
keep_calls s new a d result (Some x) refused keeps = omega (arith, (refused refl).same_disk.same_turn)
