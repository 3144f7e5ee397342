-- What a job does and is answered: a change, a keep, or a get.
use Rattle.std.specs.Prelude.{◌≡◌, ◌≢◌, ℕ, ◌≤◌, Bool, true, false, ◌||◌, List, length, Option, Some, None, Result, Ok, Err, IfSome, IsNone, IsSome, IsTrue, OnOk, refl}
use Rattle.std.proofs.Common.{arith, ap, sym, ◌∙◌, subst, inl, inr}
use Rattle.std.specs.FinMap as fin
use Rattle.disk_face.specs.States as disk
use Rattle.disk_face.specs.Frames.{Unchanged}
use Rattle.size_class.specs.Classes.{width}
use Rattle.size_class.specs.declared.TheConstants.{SIZE_MAX}
use Rattle.slot_pair.specs.Finding.{HasDiskCause}
use Rattle.slot_pair.specs.Saves.{save_calls}
use Rattle.map_model.specs.Requests as ask
use Rattle.map_model.specs.Requests.{Change, Refused, Reply, Request}
use Rattle.extent_table.specs.declared.spot.Spot.{Spot}
use Rattle.store_model.specs.declared.answers.Refusal.{Refusal}
use Rattle.store_model.specs.declared.answers.Refusal.TheVariants as why
use Rattle.store_model.specs.declared.answers.Done.{Done}
use Rattle.store_model.specs.Answers.{AnswersChange, AnswersNumber, AnswersRead, done_reply, refusal_for, refused_by, refused_reply, reply_of, size_at}
use Rattle.store_model.specs.Answers as store
use Rattle.store_model.specs.Readings.{is_damaged_read}
use Rattle.store_model.specs.declared.answers.Moment.TheVariants as moment
use Rattle.store_model.specs.Changes.{NothingChanged}
use Rattle.store_model.specs.Changing.{IsChange}
use Rattle.store_model.specs.Connection.{IsConnected, StoreValue, base_of, limits_of, state_of}
use Rattle.store_model.specs.Keeps.{AnswersKeep, IsKeep, kept_now}
use Rattle.store_model.specs.Quiet.{charges_of}
use Rattle.store_model.specs.States.{Served, State, Step, object_in, unchanged}
use Rattle.store_model.specs.Stores.{IsStore}
use Rattle.store_model.proofs.AnsweredLaws.{number_served}
use Rattle.data_area.proofs.CauseLaws.{calm_disk, disk_cause_as}
use Rattle.store_model.proofs.StepLaws.{always, read_reply}
use Rattle.store_model.proofs.StoreLaws.{small_if_there}
use Rattle.segment_layout.specs.Books.{is_quiet}
use Rattle.store_costs.proofs.ChangeLaws.{at_ok, same_moves_nothing}
use Rattle.store_costs.proofs.OtherLaws.{keep_moves_nothing}
use Rattle.ask_text.specs.Replies.{reply_line_of, told_for}
use Rattle.ask_text.specs.declared.reply.Reply as text
use Rattle.ask_text.specs.declared.reply.Reply.TheVariants as head
use Rattle.ask_text.specs.declared.reply.RefusedWord.TheVariants as word
use Rattle.ask_text.specs.declared.ends.End.{End}
use Rattle.ask_text.specs.declared.ends.End.TheVariants as ends
use Rattle.ask_session.specs.ReplyLines.{Answers, answer_change, answer_of}
use Rattle.ask_session.specs.Serving.{Serves, reply_at, served_at}
use Rattle.ask_session.proofs.AnswerLaws.{change_answers, keep_answers, refused_head}
use Rattle.ask_session.proofs.ReadReplyLaws.{answer_is, can_read, found_damaged, found_fine, get_long, get_served, refused_with}
use Rattle.ask_session.specs.Ready.{CanServe}
use Rattle.ask_session.proofs.ServingLaws.{refused_stays, serves_same}
use Rattle.work_session.specs.Counts.{asked_by, calls_by}
use Rattle.work_session.specs.Jobs.{Charges, Does, most_read}
use Rattle.work_session.proofs.DoneLaws.{IsShortChange, store_model, nothing_charged, refused_asks, small_change, sound_if}
use Rattle.placement_model.proofs.EntryLaws.{len-read_at}

-- ---- refused

-- a request that is refused charges nothing
refused_charges : {classes : ℕ} (r : Request) (s new : StoreValue) (a d : disk.State) (x : Refusal)
    → CanServe classes s a → refused_by s r ≡ Some x → NothingChanged s new a d
    → ((t : State) (w : Refused) → calls_by (state_of s a.file) t r (ask.refused w) ≡ 0)
    → Charges classes r s new a d
refused_charges {classes} r s new a d x h is same none =
    let w = refused_with s r x h.whole is in
    let reply : reply_at s a.file r ≡ ask.refused w.0 = (refused_stays s a.file r w.0 h.sound w.1).1 in
    nothing_charged r s new a d (same_moves_nothing s new same.same_store)
    (λ e. ap (λ (y : Reply). asked_by (state_of s a.file) r y e) reply
    ∙ refused_asks (state_of s a.file) r w.0 e)
    (λ told. omega (arith, same.same_disk.same_turn))

-- ---- changes

change_result : {classes : ℕ} (s new : StoreValue) (c : Change) (a d : disk.State)
    (result : Result Done Refusal)
    → CanServe classes s a → IsShortChange c → IsChange classes c s new a d result
    → (IsTrue a.tells → IfSome (reply_of done_reply result) (λ reply. Step (limits_of s) (state_of s a.file)
    (ask.change c) reply (state_of new d.file)))
    → OnOk (answer_change result) (IsStore classes new) → length s.asked ≡ width
    → OnOk (answer_change result) (Charges classes (ask.change c) s new a d)
change_result s new c a d (Ok done) h short x step sound full =
    store_model s new c a d done h full short x step sound
change_result {classes} s new c a d (Err w) h short x step sound full =
    by (refused_by s (ask.change c)) refl x.answer
  where
    by : (o : Option Refusal) → refused_by s (ask.change c) ≡ o
        → AnswersChange (is_quiet (charges_of s c)) o (Err w)
        → OnOk (answer_of w) (Charges classes (ask.change c) s new a d)
    by None is (inl bad) = absurd (cc)
    by None is (inr failed) =
        let disk_failed : w ≡ why.Disk = cc in
        subst (λ (y : Refusal). OnOk (answer_of y) (Charges classes (ask.change c) s new a d))
        (sym disk_failed) tt
    by (Some y) is answer = always (answer_of w) (refused_charges (ask.change c) s new a d y h is
        (x.refused (subst (λ (o : Option Refusal). IsSome o) (sym is) refl)) (λ t w. refl))

pub change_does : {classes : ℕ} (s new : StoreValue) (c : Change) (a d : disk.State)
    (result : Result Done Refusal)
    → CanServe classes s a → IsShortChange c → IsChange classes c s new a d result
    → (s.is_broken ≡ false → IsTrue a.tells → IfSome (reply_of done_reply result) (λ reply. Step (limits_of s)
    (state_of s a.file) (ask.change c) reply (state_of new d.file)))
    → (new.is_broken ≡ false → IsStore classes new)
    → Does classes (ask.change c) s new a d (answer_change result)
change_does {classes} s new c a d result h short x step sound = record {
  serves = y.serves;
  sound = now_sound;
  replied = y.replied;
  small = small_change result;
  charges = change_result s new c a d result h short x (step h.whole) now_sound;
  only = y.only;
  cause = y.disk_cause;
}
  where
    y : Answers classes (ask.change c) s new a d (answer_change result)
    y = change_answers s new c a d result h x step

    now_sound : OnOk (answer_change result) (IsStore classes new)
    now_sound = sound_if (ask.change c) new (answer_change result) y.serves.broken sound

-- what a request asks of a store and of its disk
pub can_serve : {classes : ℕ} (s : StoreValue) (a : disk.State) → s.is_broken ≡ false → IsStore classes s
    → IsConnected classes s a → IsTrue a.is_ready → disk.IsLawful a → CanServe classes s a
can_serve s a whole sound over ready lawful = record {
  whole = whole;
  idle = over.idle;
  sound = sound;
  over = over.over whole;
  ready = ready;
  fits = lawful.turn_fits;
}

-- ---- keeps

module _ {classes : ℕ} (s new : StoreValue) (a d : disk.State) (h : CanServe classes s a) where
  keep_result : (result : Result Done Refusal) → IsKeep classes s new a d result
      → (IsTrue a.tells → IfSome (reply_of done_reply result) (λ reply. Step (limits_of s)
      (state_of s a.file) ask.keep reply (state_of new d.file)))
      → OnOk (answer_change result) (Charges classes ask.keep s new a d)
  keep_result result x step = by result refl (refused_by s ask.keep) refl x.answer
    where
      kept : (done : Done) → result ≡ Ok done → refused_by s ask.keep ≡ None → done ≡ record { kept = true }
          → Charges classes ask.keep s new a d
      kept done is none answered =
          let served = x.kept (subst (λ (o : Option Refusal). IsNone o) (sym none) refl) in
          let value : new ≡ kept_now s = at_ok result done is served.value in
          let calls = at_ok result done is served.calls.all in
          let same : fin.len (state_of new d.file).map ≡ fin.len s.now =
          ap (λ (y : StoreValue). fin.len (state_of y d.file).map) value
          ∙ len-read_at (base_of s) d.file s.now h.sound.now.named in
          let is_step : IsTrue a.tells → Step (limits_of s) (state_of s a.file) ask.keep (done_reply done)
          (state_of new d.file) = λ told. subst (λ (y : Result Done Refusal). IfSome (reply_of done_reply y)
          (λ reply. Step (limits_of s) (state_of s a.file) ask.keep reply (state_of new d.file))) is
          (step told) in
          let reply : IsTrue a.tells → reply_at s a.file ask.keep ≡ ask.kept =
          λ told. sym (is_step told).replied ∙ ap (λ (y : Done). done_reply y) answered in
          nothing_charged ask.keep s new a d (keep_moves_nothing s new a d result x) (λ e. refl)
          (λ told. omega (
            arith,
            calls,
            ap save_calls same,
            ap (λ (y : Reply). calls_by (state_of s a.file) (state_of new d.file) ask.keep y) (reply told),
          ))

      by : (r : Result Done Refusal) → result ≡ r → (o : Option Refusal) → refused_by s ask.keep ≡ o
          → AnswersKeep o result → OnOk (answer_change r) (Charges classes ask.keep s new a d)
      by (Ok done) is None none (inl answered) = kept done is none (let e : Ok done
          ≡ Ok (record { kept = true }) =
          sym is ∙ answered in cc)
      by (Ok done) is None none (inr bad) = absurd (let e : Ok done ≡ Err why.Disk = sym is ∙ bad in cc)
      by (Ok done) is (Some w) some answer = absurd (let e : Ok done ≡ Err w = sym is ∙ answer in cc)
      by (Err w) is None none (inl bad) = absurd (let e : Err w ≡ Ok (record { kept = true }) = sym is
          ∙ bad in cc)
      by (Err w) is None none (inr failed) =
          let disk_failed : w ≡ why.Disk = let e : Err w ≡ Err why.Disk = sym is ∙ failed in cc in
          subst (λ (y : Refusal). OnOk (answer_of y) (Charges classes ask.keep s new a d))
          (sym disk_failed) tt
      by (Err w) is (Some y) some answer = always (answer_of w) (refused_charges ask.keep s new a d y h some
          (x.refused (subst (λ (o : Option Refusal). IsSome o) (sym some) refl)) (λ t w. refl))

  pub keep_does : (result : Result Done Refusal) → IsKeep classes s new a d result
      → (s.is_broken ≡ false → IsTrue a.tells → IfSome (reply_of done_reply result) (λ reply. Step
      (limits_of s)
      (state_of s a.file) ask.keep reply (state_of new d.file)))
      → IsConnected classes new d
      → new.is_broken ≡ (s.is_broken || store.is_disk_fault result)
      → (new.is_broken ≡ false → IsStore classes new) → Does classes ask.keep s new a d (answer_change result)
  keep_does result x step over broken sound =
      let y = keep_answers s new a d result h x.answer x.refused x.kept step over broken in
      record {
        serves = y.serves;
        sound = sound_if ask.keep new (answer_change result) y.serves.broken sound;
        replied = y.replied;
        small = small_change result;
        charges = λ full. keep_result result x (step h.whole);
        only = y.only;
        cause = y.disk_cause;
      }

-- ---- gets

-- no refusal says that the disk failed
no_disk : (w : Refused) → refusal_for w ≢ why.Disk
no_disk w is = absurd (let e : Ok (head.Refused (told_for w)) ≡ Err ends.Disk = sym (answer_is w)
    ∙ ap answer_of is in cc)

number_of : (o : Option Refusal) (n size : ℕ) → AnswersRead o n (Ok size) → AnswersNumber o n (Ok size)
number_of None n size (inl is) = is
number_of None n size (inr (inl bad)) = absurd (cc)
number_of None n size (inr (inr (inl bad))) = absurd (cc)
number_of None n size (inr (inr (inr bad))) = absurd (cc)
number_of (Some w) n size is = is

there_short : (o : Option Spot) → IfSome o (λ x. x.size ≤ SIZE_MAX) → size_at o ≤ most_read
there_short None small = omega arith
there_short (Some x) small = small

module _ {classes : ℕ} (s : StoreValue) (a d : disk.State) (name : List ℕ) (h : CanServe classes s a)
    (same : Unchanged a d) (t : State) where
  abbrev r : Request
  r = ask.get name

  abbrev object : List ℕ
  object = object_in (state_of s a.file).map name

  abbrev damaged : Bool
  damaged = is_damaged_read (state_of s a.file) r

  -- what is replied, once it is known whether the object is damaged
  replied_as : (b : Bool) → refused_by s r ≡ None → IsTrue a.tells → damaged ≡ b
      → served_at s a.file r ≡ unchanged (state_of s a.file) (read_reply b (ask.found object))
  replied_as b served told is = get_served s a name (can_read h) served
      ∙ ap (λ (c : Bool). unchanged (state_of s a.file) (read_reply c (ask.found object))) is

  abbrev n : ℕ
  n = size_at (fin.get s.now name)

  none_charged : Charges classes r s s a d
  none_charged = nothing_charged r s s a d (same_moves_nothing s s refl) (λ e. refl)
      (λ told. omega (arith, same.same_turn))

  pub get_gives : (size : ℕ) → AnswersRead (refused_by s r) n (Ok size) → d.faults ≡ a.faults
      → (IsTrue a.tells → Step (limits_of s) (state_of s a.file) r (ask.found object) t)
      → Does classes r s s a d (Ok (head.Data size))
  get_gives size answer calm step =
      let number = number_of (refused_by s r) n size answer in
      let served = number_served (refused_by s r) n size number in
      let is : IsTrue a.tells → served_at s a.file r ≡ unchanged (state_of s a.file) (ask.found object) =
      λ told. replied_as false served.0 told (found_fine s a moment.Now name (can_read h) served.0 t object
      (step told)) in
      record {
        serves = serves_same s r a d (Ok (head.Data size)) h same (λ told. record {
          reply = ask.found object;
          is = is told;
          none = refl;
        }) refl;
        sound = h.sound;
        replied = λ told. ap head.Data (sym (get_long s a name size (can_read h) number told))
            ∙ sym (ap (λ (y : Served). reply_line_of y.reply) (is told));
        small = omega (
          arith,
          served.1,
          there_short (fin.get s.now name)
              (small_if_there s h.sound name (fin.get s.now name) refl),
        );
        charges = λ full. none_charged;
        only = tt;
        cause = calm_disk (λ is. absurd (cc)) calm;
      }

  -- a get that is refused
  get_refused : (x : Refusal) → refused_by s r ≡ Some x → (x ≢ why.Disk → d.faults ≡ a.faults)
      → Does classes r s s a d (answer_of x)
  get_refused x is calm =
      let w = refused_with s r x h.whole is in
      let y = refused_head s r w.0 a d h w.1 same (calm (λ e. no_disk w.0 (sym w.2 ∙ e))) in
      let said : answer_of x ≡ Ok (head.Refused (told_for w.0)) = ap answer_of w.2 ∙ answer_is w.0 in
      subst (λ (z : Result text.Reply End). Does classes r s s a d z) (sym said) (record {
        serves = y.serves;
        sound = h.sound;
        replied = y.replied;
        small = omega arith;
        charges = λ full. none_charged;
        only = tt;
        cause = y.disk_cause;
      })

  -- a get of an object that is damaged
  get_damaged : refused_by s r ≡ None → d.faults ≡ a.faults
      → (IsTrue a.tells → Step (limits_of s) (state_of s a.file) r (ask.refused ask.damaged) t)
      → Does classes r s s a d (answer_of why.Damaged)
  get_damaged served calm step =
      let is : IsTrue a.tells
      → served_at s a.file r ≡ unchanged (state_of s a.file) (ask.refused ask.damaged) =
      λ told. replied_as true served told
      (found_damaged s a moment.Now name (can_read h) served t (step told)) in
      record {
        serves = serves_same s r a d (Ok (head.Refused word.Damaged)) h same (λ told. record {
          reply = ask.refused ask.damaged;
          is = is told;
          none = refl;
        }) refl;
        sound = h.sound;
        replied = λ told. sym (ap (λ (y : Served). reply_line_of y.reply) (is told));
        small = omega arith;
        charges = λ full. none_charged;
        only = tt;
        cause = calm_disk (λ is. absurd (cc)) calm;
      }

  -- a get in which the disk failed
  get_failed : HasDiskCause {T = ℕ} why.Disk a.faults d.faults (Err why.Disk)
      → Does classes r s s a d (answer_of why.Disk)
  get_failed cause = record {
    serves = by (refused_by s r) refl;
    sound = tt;
    replied = λ told. tt;
    small = tt;
    charges = λ full. tt;
    only = refl;
    cause = disk_cause_as cause (λ is. refl) (λ is. refl);
  }
    where
      by : (o : Option Refusal) → refused_by s r ≡ o → Serves {T = text.Reply} classes r s s a d
          (Err ends.Disk)
      by None is = serves_same s r a d (Err ends.Disk) h same (λ told. record {
        reply = read_reply damaged (ask.found object);
        is = get_served s a name (can_read h) is;
        none = refl;
      }) refl
      by (Some x) is =
          let w = refused_with s r x h.whole is in
          serves_same s r a d (Err ends.Disk) h same (λ told.
          (refused_stays s a.file r w.0 h.sound w.1).0) refl

  pub get_stops : (x : Refusal) → AnswersRead (refused_by s r) n (Err x)
      → HasDiskCause {T = ℕ} why.Disk a.faults d.faults (Err x) → (x ≡ why.Sink → ⊥)
      → (IsTrue a.tells
      → IfSome (refused_reply x) (λ reply. Step (limits_of s) (state_of s a.file) r reply t))
      → Does classes r s s a d (answer_of x)
  get_stops x answer cause no_sink step = by (refused_by s r) refl answer
    where
      by : (o : Option Refusal) → refused_by s r ≡ o → AnswersRead o n (Err x)
          → Does classes r s s a d (answer_of x)
      by (Some y) is answer =
          let e : y ≡ x = cc in
          get_refused x (is ∙ ap (λ (z : Refusal). Some z) e)
          (λ other. cause.calm (λ failed. let f : x ≡ why.Disk = (cc) in other f))
      by None is (inl bad) = absurd (cc)
      by None is (inr (inl failed)) =
          let e : x ≡ why.Disk = cc in
          subst (λ (z : Refusal). Does classes r s s a d (answer_of z)) (sym e)
          (get_failed (subst (λ (z : Refusal). HasDiskCause {T = ℕ} why.Disk a.faults d.faults (Err z)) e
          cause))
      by None is (inr (inr (inl failed))) = absurd (no_sink (let e : x ≡ why.Sink = cc in e))
      by None is (inr (inr (inr failed))) =
          let e : x ≡ why.Damaged = cc in
          subst (λ (z : Refusal). Does classes r s s a d (answer_of z)) (sym e)
          (get_damaged is (cause.calm (λ other. let f : why.Damaged ≡ why.Disk = (cc) in absurd (cc)))
          (λ told. subst (λ (z : Refusal). IfSome (refused_reply z)
          (λ reply. Step (limits_of s) (state_of s a.file) r reply t)) e (step told)))
