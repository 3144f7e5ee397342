-- A change whose flush is begun, as contracts see the store.
use Rattle.std.specs.Prelude.{◌≡◌, ℕ, ◌+◌, ◌*◌, ◌≤◌, ◌<◌, ◌^◌, Bool, true, false, ◌||◌, List, Option, Some, None, option_map, Result, Ok, Err, IfSome, IsTrue, refl}
use Rattle.std.proofs.Common.{ap, arith, sym, ◌∙◌, subst, inl, inr}
use Rattle.std.specs.FinMap as fin
use Rattle.logged_pair.specs.Slots.{used_in}
use Rattle.disk_face.specs.Counts.{HasCause}
use Rattle.disk_face.specs.States as disk
use Rattle.disk_face.specs.Writes.{KeepsDisk}
use Rattle.size_class.specs.Rows.{cells_of}
use Rattle.map_model.specs.Requests as ask
use Rattle.map_model.specs.Requests.{Change}
use Rattle.segment_layout.specs.Books.{is_quiet}
use Rattle.flush_plan.specs.Lifts.{KeepsLifting, Lift}
use Rattle.flush_run.specs.declared.hands.Hands.{Hands}
use Rattle.flush_run.specs.declared.phase.Phase.TheVariants as phases
use Rattle.flush_run.specs.FlushFrames.{IsMidFlush, LeavesOldOrNew}
use Rattle.flush_run.specs.Parts.{HandsValue, parts_of}
use Rattle.flush_run.specs.Shelved.{items_now, phase_now}
use Rattle.store_model.specs.declared.answers.Begun.{Begun}
use Rattle.store_model.specs.declared.answers.Begun.TheVariants as begun
use Rattle.store_model.specs.declared.answers.Done.{Done}
use Rattle.store_model.specs.declared.answers.Refusal.{Refusal}
use Rattle.store_model.specs.declared.answers.Refusal.TheVariants as why
use Rattle.store_model.specs.declared.hand.Began.{Began}
use Rattle.store_model.specs.Answers.{AnswersChange, facts_at, is_disk, is_disk_fault, refusal_for, refused_by, refused_reply}
use Rattle.store_model.specs.Changes.{IsQuietChange}
use Rattle.store_model.specs.Begins.{AnswersBegin, BeginsChange, BeginsServed, origin_of}
use Rattle.store_model.specs.Inside.{Inside, IsGoing, IsWhole, hand_of, kept_of}
use Rattle.store_model.specs.Connection.{FlushInHand, IsConnected, IsOver, RestsOnTable, StoreValue, base_of, limits_of, state_of}
use Rattle.store_model.specs.Flushing.{BeforeChange, CanMakeFlush, IsBegun, bytes_of, flight_of, lift_start}
use Rattle.store_model.specs.Halves.{HalfAgrees}
use Rattle.store_model.specs.Quiet.{charges_of}
use Rattle.store_model.specs.States.{Step, refusal}
use Rattle.store_model.proofs.ChangingLaws.{stays_broken}
use Rattle.store_model.proofs.ReadingLaws.{whole_if_served}
use Rattle.store_model.proofs.RefusedLaws.{not_none, not_some}
use Rattle.store_model.proofs.FlushChangeLaws.{IsServed, is_served}
use Rattle.store_model.proofs.HoldLaws.{begun_can, begun_content, begun_going, begun_half, begun_holds, begun_left, held}
use Rattle.disk_face.proofs.FrameLaws.{unchanged_itself}

-- a quiet change is the same, whatever its answer is called
pub quiet_done : {T U : Type 0} {classes : ℕ} {c : Change} {old new : StoreValue} {a d : disk.State}
    {one : T} {other : U} → IsQuietChange classes c old new a d (Ok one)
    → IsQuietChange classes c old new a d (Ok other)
quiet_done q = record {
  value = q.value;
  content = q.content;
  length = q.length;
  sequence = q.sequence;
  rests = q.rests;
  left = q.left;
  calls = record {
    all = q.calls.all;
    most = q.calls.most;
    cause = record { later = q.calls.cause.later; rose = tt; calm = q.calls.cause.calm };
  };
  frame = q.frame;
}

pub quiet_failed : {T U : Type 0} {classes : ℕ} {c : Change} {old new : StoreValue} {a d : disk.State}
    {refused : Refusal} → IsQuietChange {T = T} classes c old new a d (Err refused)
    → IsQuietChange {T = U} classes c old new a d (Err refused)
quiet_failed q = record {
  value = tt;
  content = q.content;
  length = q.length;
  sequence = q.sequence;
  rests = q.rests;
  left = q.left;
  calls = record {
    all = tt;
    most = q.calls.most;
    cause = record { later = q.calls.cause.later; rose = q.calls.cause.rose; calm = tt };
  };
  frame = q.frame;
}

module _ {classes : ℕ} {c : Change} {old new : StoreValue} {a d : disk.State}
    (quiet : is_quiet (charges_of old c) ≡ true) where
  pub begins_quietly : {done : Done} → IsQuietChange classes c old new a d (Ok done)
      → (IsTrue a.tells → Step (limits_of old) (state_of old a.file) (ask.change c) ask.done
      (state_of new d.file)) → IsConnected classes new d → new.is_broken ≡ false
      → BeginsServed classes c old new a d (Ok begun.Done)
  begins_quietly q step over whole = record {
    answer = subst (λ b. AnswersBegin b None (Ok begun.Done)) (sym quiet) (inl refl);
    quiet = λ _. quiet_done q;
    flush = λ loud. absurd (let e : true ≡ false = sym quiet ∙ loud in cc);
    step = step;
    over = over;
    broken = whole;
  }

  pub begins_stopped : {refused : Refusal} → AnswersChange true None (Err refused)
      → IsQuietChange {T = Done} classes c old new a d (Err refused) → IsConnected classes new d
      → new.is_broken ≡ is_disk refused → BeginsServed classes c old new a d (Err refused)
  begins_stopped (inl is) q over broken = absurd (cc)
  begins_stopped {refused = refused} (inr is) q over broken =
      let same : refused ≡ why.Disk = (cc) in
      record {
        answer = subst (λ b. AnswersBegin b None (Err refused)) (sym quiet)
            (inr (ap (λ (r : Refusal). Err r) same));
        quiet = λ _. quiet_failed q;
        flush = λ loud. absurd (let e : true ≡ false = sym quiet ∙ loud in cc);
        step = λ told. subst (λ (r : Refusal). IfSome (refused_reply r) (λ reply. Step (limits_of old)
            (state_of old a.file) (ask.change c) reply (state_of new d.file))) (sym same) tt;
        over = over;
        broken = broken;
      }

-- ---- a begin, refused or served

pub begins_refused : {classes : ℕ} (c : Change) (s : StoreValue) (a : disk.State) (refused : Refusal)
    → refused_by s (ask.change c) ≡ Some refused → IsTrue a.is_ready → IsConnected classes s a
    → BeginsChange classes c s s a a (Err refused)
begins_refused c s a refused is ready over = record {
  answer = subst (λ (x : Option Refusal). AnswersBegin (is_quiet (charges_of s c)) x (Err refused))
      (sym is) refl;
  refused = λ some. record { same_store = refl; same_disk = unchanged_itself a ready; same_faults = refl };
  quiet = λ none quiet. not_none (refused_by s (ask.change c)) refused is none;
  flush = λ none needs_flush. not_none (refused_by s (ask.change c)) refused is none;
  over = over;
  broken = stays_broken s.is_broken (refusal (limits_of s) (facts_at s (ask.change c)) (ask.change c)) refused
      is;
}

pub begins_served : {classes : ℕ} (c : Change) (old new : StoreValue) (before now : disk.State)
    (result : Result Begun Refusal) → refused_by old (ask.change c) ≡ None
    → BeginsServed classes c old new before now result → BeginsChange classes c old new before now result
begins_served c old new before now result none serves = record {
  answer = subst (λ (o : Option Refusal). AnswersBegin (is_quiet (charges_of old c)) o result) (sym none)
      serves.answer;
  refused = λ some. not_some (refused_by old (ask.change c)) none some;
  quiet = λ _. serves.quiet;
  flush = λ _. serves.flush;
  over = serves.over;
  broken = serves.broken ∙ ap (λ (b : Bool). b || is_disk_fault result) (sym (whole_if_served old.is_broken
      (option_map refusal_for (refusal (limits_of old) (facts_at old (ask.change c)) (ask.change c))) none));
}

-- ---- a flush that is begun

module _ {C : ℕ} (s : Inside C) (t : StoreValue) (is : kept_of s ≡ t) (whole : IsWhole s) (c : Change)
    (served : refused_by t (ask.change c) ≡ None) (a : disk.State) (over : IsConnected C t a)
    (hands1 : Hands C) (v : Lift) (place : ℕ) (bytes : List ℕ)
    (made : IsBegun C (parts_of s.hands) c (parts_of hands1) (phase_now v.course hands1.table) place)
    (object : bytes_of c ≡ bytes) (began : Began C) (at : began.sequence ≡ (used_in s.hands.slots).sequence)
    (row : cells_of began.moved ≡ cells_of s.hands.ledger.moved)
    (many : began.left ≡ 2 * fin.len hands1.table.now + 1)
    (needs_flush : is_quiet (charges_of t c) ≡ false) (d : disk.State)
    (left : (x : HandsValue) (e : Change) (g : BeforeChange)
    → CanMakeFlush C x e g (parts_of hands1) (lift_start (phase_now v.course hands1.table) place) bytes a
    → IsTrue a.tells → LeavesOldOrNew (flight_of C x e v.course.numbers.reach g)
    ((used_in hands1.slots).sequence + 1) a d)
    (most : d.turn ≤ a.turn + 2) (frame : KeepsDisk a d) where
  pub can : IsServed t c
  can = is_served t c served

  pub unbroken : s.broken ≡ false
  unbroken = ap (λ (x : StoreValue). x.is_broken) is ∙ can.whole

  pub fresh : (used_in s.hands.slots).sequence < 2 ^ 61
  fresh = omega (arith, can.fresh, ap (λ (x : StoreValue). x.in_use.sequence) is)

  pub over_here : IsTrue a.tells → IsOver C (kept_of s) a.file
  over_here told = subst (λ (x : StoreValue). IsOver C x a.file) (sym is) (over.over can.whole told)

  loud : is_quiet (charges_of (kept_of s) c) ≡ false
  loud = subst (λ (x : StoreValue). is_quiet (charges_of x c) ≡ false) (sym is) needs_flush

  abbrev hand : FlushInHand
  hand = hand_of began (record s { hands = hands1 }) (phases.Lift v)

  abbrev new : StoreValue
  new = held s whole unbroken c can.named fresh a over_here hands1 v place bytes made object began at row
      many

  -- the flush may go on
  pub begin_going : KeepsLifting C v (items_now v.course hands1.table)
      → IsGoing began (record s { hands = hands1 }) (phases.Lift v)
  begin_going keeps = begun_going s whole unbroken c can.named fresh a over_here hands1 v place bytes made
      object began at row many keeps

  -- it failed
  pub begin_failed : {E : Type 0} (fault : E) → HasCause {T = Unit {0}} a.faults d.faults (Err fault)
      → BeginsServed C c t (kept_of (record s { hands = hands1; broken = true })) a d (Err why.Disk)
  begin_failed fault cause = subst (λ (x : StoreValue). BeginsServed C c x
      (kept_of (record s { hands = hands1; broken = true })) a d (Err why.Disk)) is (record {
        answer = inr refl;
        quiet = λ q. absurd (let e : true ≡ false = sym q ∙ loud in cc);
        flush = λ _. record {
          holds = tt;
          half = λ told rests given h none. absurd (cc);
          content = λ told. begun_content s whole unbroken c can.named fresh a over_here hands1 v place bytes
              made object began at row many told d left;
          left = λ told. begun_left s whole unbroken c can.named fresh a over_here hands1 v place bytes made
              object began at row many told d left;
          moved = ap (λ (y : HandsValue). y.moved) made.rest;
          pair = ap (λ (y : HandsValue). y.in_use) made.rest;
          calls = most;
          frame = frame;
          cause = record { later = cause.later; rose = cause.rose; calm = tt };
        };
        step = λ told. tt;
        over = record { idle = refl; over = λ sound. absurd (cc) };
        broken = refl;
      })

  -- it is in hand
  module _ (flies : (x : HandsValue) (e : Change) (g : BeforeChange)
      → CanMakeFlush C x e g (parts_of hands1) (lift_start (phase_now v.course hands1.table) place) bytes a
      → IsTrue a.tells
      → IsMidFlush (flight_of C x e v.course.numbers.reach g) (used_in hands1.slots) hands1.table d) where
    half_at : IsTrue a.tells → (rests : Bool) → (IsTrue rests → RestsOnTable (base_of (kept_of s))
        (kept_of s).kept a) → HalfAgrees C new hand (origin_of (kept_of s) c a.file rests) d
    half_at told rests given = begun_half s whole unbroken c can.named fresh a over_here hands1 v place bytes
        made object began at row many told rests given d (flies (parts_of s.hands) c _
        (begun_can s whole unbroken c can.named fresh a over_here hands1 v place bytes made object began at
        row many told rests given) told)

    pub begin_done : {E : Type 0} → HasCause {T = Unit {0}} {E = E} a.faults d.faults (Ok tt)
        → BeginsServed C c t new a d (Ok begun.InHand)
    begin_done cause = subst (λ (x : StoreValue). BeginsServed C c x new a d (Ok begun.InHand)) is (record {
      answer = subst (λ b. AnswersBegin b None (Ok begun.InHand)) (sym loud) (inl refl);
      quiet = λ q. absurd (let e : true ≡ false = sym q ∙ loud in cc);
      flush = λ _. record {
        holds = (
          hand,
          begun_holds s whole unbroken c can.named fresh a over_here hands1 v place bytes made object began
              at row many,
        );
        half = λ told rests given h one.
            let same : hand ≡ h = (cc) in
            subst (λ x. HalfAgrees C new x (origin_of (kept_of s) c a.file rests) d) same
            (half_at told rests given);
        content = λ told. begun_content s whole unbroken c can.named fresh a over_here hands1 v place bytes
            made object began at row many told d left;
        left = λ told. begun_left s whole unbroken c can.named fresh a over_here hands1 v place bytes made
            object began at row many told d left;
        moved = ap (λ (y : HandsValue). y.moved) made.rest;
        pair = ap (λ (y : HandsValue). y.in_use) made.rest;
        calls = most;
        frame = frame;
        cause = record { later = cause.later; rose = tt; calm = cause.calm };
      };
      step = λ told. tt;
      over = record {
        hand = hand;
        is = refl;
        digests = refl;
        half = λ told.
            let was : IsTrue a.tells = sym frame.stays.told ∙ told in
            (_, half_at was false (λ t. absurd (let e : false ≡ true = t in cc)));
      };
      broken = unbroken;
    })
