-- Puts and removals that a desk takes, and the flush that one begins.
use Rattle.std.specs.Prelude.{◌≡◌, ◌⊎◌, ℕ, ◌+◌, ◌*◌, nat_lt, Bool, true, false, ◌||◌, codes, Option, Some, None, Result, Ok, Err, IfOk, IfSome, IsTrue, refl, ◌≤◌, if◌then◌else◌, List, [], length, IsSome}
use Rattle.std.proofs.Common.{arith, ap, sym, ◌∙◌, subst, inr, inl}
use Rattle.std.specs.FinMap as fin
use Rattle.disk_face.specs.Devices.{devices}
use Rattle.disk_face.proofs.MomentLaws.{Leaves-weaken}
use Rattle.disk_face.specs.States as disk
use Rattle.disk_face.specs.Streams.{SinkState}
use Rattle.slot_codec.specs.Choice.{InUse}
use Rattle.map_model.specs.Maps.{Map}
use Rattle.map_model.specs.Requests as ask
use Rattle.map_model.specs.Requests.{Change, Refused, Reply, Request}
use Rattle.segment_layout.specs.Books.{is_quiet, next_book}
use Rattle.store_model.specs.declared.answers.Begun.{Begun}
use Rattle.store_model.specs.declared.answers.Begun.TheVariants as begun
use Rattle.store_model.specs.declared.answers.Refusal.{Refusal}
use Rattle.store_model.specs.Answers.{refused_by}
use Rattle.store_model.specs.Begins.{BeginsChange, BeginsFlush, HoldsFlush, begun_reply, origin_of}
use Rattle.store_model.specs.Flushes.{IsFlushImage, map_after, names_after}
use Rattle.data_area.proofs.CauseLaws.{calm_disk}
use Rattle.store_model.proofs.MadeFlushLaws.{len_after}
use Rattle.store_model.proofs.QuietLaws.{quiet_by_book}
use Rattle.store_model.proofs.AnsweredLaws.{refusal_at, served_is}
use Rattle.store_model.proofs.RequestLaws.{served_by}
use Rattle.store_model.specs.Connection.{FlushInHand, IsConnected, StoreValue, base_of, limits_of, state_of}
use Rattle.store_model.specs.Quiet.{charges_of, quiet_calls}
use Rattle.store_model.specs.States.{Limits, Served, State, Step, served, served_change}
use Rattle.store_model.specs.Stores.{IsStanding}
use Rattle.sliced_laws.proofs.GoingLaws.{book_is}
use Rattle.sliced_laws.proofs.SlicedLaws.{begun_done, begun_failed, in_hand_means}
use Rattle.ask_text.specs.declared.reply.Reply as text
use Rattle.ask_text.specs.declared.reply.Reply.TheVariants as head
use Rattle.ask_text.specs.declared.ends.End.{End}
use Rattle.ask_session.specs.Ready.{CanServe}
use Rattle.ask_session.specs.ReplyLines.{Answers, answer_of, is_kept}
use Rattle.ask_session.specs.Serving.{reply_at}
use Rattle.ask_session.proofs.AnswerLaws.{change_answers, none_is}
use Rattle.ask_session.proofs.ReplyLaws.{no_disk_fault, sink_calm, sink_serving}
use Rattle.desk_model.specs.Answers as answer
use Rattle.desk_model.specs.Answers.{Answer}
use Rattle.desk_model.specs.Desks.{Desk, Flush, TakesIf, begins, flush_by, with_queue}
use Rattle.desk_model.specs.Events.{line_for}
use Rattle.desk_core.specs.Images.{BeganAt, Checkpoint, LeavesFrom, OpensTo, RestsFrom, kept_of, settled_of}
use Rattle.desk_core.specs.Playing.{CallsOnce, TakesRequest, owned}
use Rattle.desk_core.specs.Shows.{ShowsFlush, ShowsStore}
use Rattle.desk_core.specs.Telling.{PutsAll, PutsReply, TellsBegun}
use Rattle.desk_core.proofs.HandLaws.{no_hand, same_hand}
use Rattle.desk_core.proofs.ImageLaws.{opens_with, settled_idle}
use Rattle.desk_core.proofs.TakeLaws.{answer_takes, line_plain, plain_begins, refused_plain}
use Rattle.placement_model.proofs.EntryLaws.{len-read_at}

-- ---- a change that isn't quiet

record IsLoud (limits : Limits) (t : State) (c : Change) (x : Served) : Type 0 where
  least : x.saves.least ≡ 1
  most : x.saves.most ≡ 2 * limits.k + 1
  map : x.state.map ≡ ask.changed c t.map
  kept : x.state.kept ≡ x.state.map
  book : x.state.book ≡ (next_book limits.k t.map t.book c).book
  kept_book : x.state.kept_book ≡ x.state.book

is_loud : (limits : Limits) (t : State) (c : Change) → (next_book limits.k t.map t.book c).quiet ≡ false
    → IsLoud limits t c (served_change limits t c)
is_loud limits t c quiet = record {
  least = rw quiet refl;
  most = rw quiet refl;
  map = rw quiet refl;
  kept = rw quiet refl;
  book = rw quiet refl;
  kept_book = rw quiet refl;
}

-- a quiet change makes one call at most
quiet_few : (o : Option (List ℕ)) → quiet_calls (record { name = []; object = o }) ≤ 1
quiet_few None = omega arith
quiet_few (Some object) = by (nat_lt 0 (length object))
  where
    by : (b : Bool) → (if b then 1 else 0) ≤ 1
    by true = omega arith
    by false = omega arith

-- ---- puts and removals

module _ {C : ℕ} (session : ℕ) (c : Change) (s new : StoreValue) (of : ℕ) (a d : disk.State)
    (can : CanServe C s a) (out after : SinkState) (result : Result (Unit {0}) End) where
  abbrev r : Request
  r = ask.change c

  -- an answer whose line acknowledges no checkpoint
  change_plain : (x : Result text.Reply End) → Answers C r s new a d x → IfOk x (λ y. is_kept y ≡ false)
      → IsTrue a.tells → IfOk x (λ y. begins (limits_of s) (state_of s a.file) r ≡ false)
  change_plain (Ok y) h plain told = plain_begins (limits_of s) (state_of s a.file) r
      (line_plain (reply_at s a.file r) (ap is_kept (sym (h.replied told)) ∙ plain))
  change_plain (Err end) h plain told = tt

  abbrev StepsAs : Option Reply → Type 0
  StepsAs o = s.is_broken ≡ false → IsTrue a.tells → IfSome o (λ reply. Step (limits_of s)
      (state_of s a.file) r reply (state_of new d.file))

  -- a begin makes at most two calls
  begin_calls : {b : Result Begun Refusal} → BeginsChange C c s new a d b → CallsOnce s new a d
  begin_calls {b} x = inl (by (refused_by s r) refl (is_quiet (charges_of s c)) refl)
    where
      by : (o : Option Refusal) → refused_by s r ≡ o → (q : Bool) → is_quiet (charges_of s c) ≡ q
          → d.turn ≤ a.turn + 2
      by (Some w) e q f = omega (arith, (x.refused (subst IsSome (sym e) refl)).same_disk.same_turn)
      by None e true f =
          omega (arith, (x.quiet (none_is (refused_by s r) e) f).calls.most, quiet_few c.object)
      by None e false f = omega (arith, (x.flush (none_is (refused_by s r) e) f).calls)

  done_takes : BeginsChange C c s new a d (Ok begun.Done) → StepsAs (Some ask.done)
      → PutsReply session out after (Ok head.Ok) result
      → TakesRequest C session r (owned s of) (owned new of) (devices a out) (devices d after) result
  done_takes x step p =
      let h : Answers C r s new a d (Ok head.Ok) = change_answers s new c a d
      (Ok (record { kept = false })) can (begun_done c s new a d x) step in
      answer_takes session r s new of a d can (begin_calls x) out after result (Ok head.Ok) h
      (change_plain (Ok head.Ok) h refl) p

  refused_takes : (w : Refusal) → BeginsChange C c s new a d (Err w) → StepsAs (begun_reply (Err w))
      → PutsReply session out after (answer_of w) result
      → TakesRequest C session r (owned s of) (owned new of) (devices a out) (devices d after) result
  refused_takes w x step p =
      let h : Answers C r s new a d (answer_of w) = change_answers s new c a d (Err w) can
      (begun_failed c s new a d w x) step in
      answer_takes session r s new of a d can (begin_calls x) out after result (answer_of w) h
      (change_plain (answer_of w) h (refused_plain w)) p

  -- ---- a flush that is in hand now

  module _ (x : BeginsChange C c s new a d (Ok begun.InHand)) (stands : IsStanding new) where
    abbrev means : (refused_by s r ≡ None) × (is_quiet (charges_of s c) ≡ false)
    means = in_hand_means (is_quiet (charges_of s c)) (refused_by s r) x.answer

    abbrev f : BeginsFlush C c s new a d (Ok begun.InHand)
    f = x.flush (none_is (refused_by s r) means.0) means.1

    abbrev hand : FlushInHand
    hand = f.holds.0

    abbrev held : HoldsFlush c s new hand
    held = f.holds.1

    over : IsConnected C s a
    over = record { idle = can.idle; over = λ whole told. can.over told }

    loud : IsTrue a.tells → (next_book s.in_use.block.k (state_of s a.file).map s.book c).quiet ≡ false
    loud told = quiet_by_book C s a.file c can.sound (can.over told) ∙ means.1

    served_loud : IsTrue a.tells → served (limits_of s) (state_of s a.file) r
        ≡ served_change (limits_of s) (state_of s a.file) c
    served_loud told = served_by (limits_of s) (state_of s a.file) r None
        (refusal_at s a.file r can.sound ∙ served_is s r can.whole means.0)

    flushed : IsTrue a.tells → IsLoud (limits_of s) (state_of s a.file) c
        (served (limits_of s) (state_of s a.file) r)
    flushed told = subst (IsLoud (limits_of s) (state_of s a.file) c) (sym (served_loud told))
        (is_loud (limits_of s) (state_of s a.file) c (loud told))

    -- the file gives the map after
    map_now : IsTrue a.tells → (state_of new d.file).map ≡ map_after s c a.file
    map_now told =
        (f.half told false (λ is. absurd (let e : false ≡ true = is in cc)) hand held.is).flies.content.live

    names_now : IsTrue a.tells → fin.len (map_after s c a.file) ≡ names_after s c
    names_now told = ap (λ (m : Map). fin.len m) (sym (map_now told))
        ∙ len-read_at (base_of new) d.file new.now stands.now_named
        ∙ ap (λ m. fin.len m) held.places ∙ len_after s c held.place

    flush_shown : IsTrue a.tells → (desk : Desk) → desk.state ≡ state_of s a.file
        → ShowsFlush new session d.file hand (served (limits_of s) desk.state r).state
        (flush_by (limits_of s) desk.state session r)
    flush_shown told desk same = subst (λ (t : State). ShowsFlush new session d.file hand
        (served (limits_of s) t r).state (flush_by (limits_of s) t session r)) (sym same)
        (let l = flushed told in record {
          of = refl;
          left = omega (
            arith,
            held.steps,
            names_now told,
            ap (λ (m : Map). fin.len m) l.map,
          );
          least = omega (arith, l.least, held.began);
          most = omega (arith, l.most, held.began, ap (λ (u : InUse). u.block.k) f.pair);
          later = omega (arith, held.began, ap (λ (u : InUse). u.sequence) f.pair);
          map = l.map ∙ sym (map_now told);
          kept = l.kept;
          book = l.book ∙ sym (book_is c s a over can.sound can.whole new hand held told);
          kept_book = l.kept_book ∙ l.book
              ∙ sym (book_is c s a over can.sound can.whole new hand held told);
        })

    -- what is left meanwhile opens to the last checkpoint, or to what stands after the change
    begins_image : IsTrue a.tells → (image : List ℕ) → IsFlushImage C s c a.file image
        → OpensTo C (kept_of (state_of s a.file)) image
        ⊎ OpensTo C (kept_of (served (limits_of s) (state_of s a.file) r).state) image
    begins_image told image is = elim is.opens as (λ _. OpensTo C (kept_of (state_of s a.file)) image
        ⊎ OpensTo C (kept_of (served (limits_of s) (state_of s a.file) r).state) image) [
          | inl kept ↦ inl kept
          | inr now ↦ let l = flushed told in
              inr (opens_with image (l.kept ∙ l.map) (l.kept_book ∙ l.book) now)
        ]

    begins_leaves : IsTrue a.tells → (desk : Desk) → ShowsStore s of a.file desk → (k : Checkpoint)
        → RestsFrom C s a k
        → LeavesFrom C new a d (settled_of k desk)
        (kept_of (served (limits_of s) desk.state r).state) result
    begins_leaves told desk shown k rests =
        subst (λ (y : Checkpoint). LeavesFrom C new a d y (kept_of (served (limits_of s) desk.state r).state)
        result) (sym (settled_idle s of a.file desk shown k can.idle))
        (subst (λ (t : State). LeavesFrom C new a d (kept_of (state_of s a.file))
        (kept_of (served (limits_of s) t r).state) result) (sym (shown.idle can.idle).1) (record {
          left = Leaves-weaken (λ image. OpensTo C (kept_of (state_of s a.file)) image
              ⊎ OpensTo C (kept_of (served (limits_of s) (state_of s a.file) r).state) image)
              (begins_image told) (f.left told (rests.idle can.idle));
          rests = λ calm. record {
            idle = λ none. absurd (no_hand held.is none);
            held = λ g is. subst (λ (y : FlushInHand). BeganAt C new y d (kept_of (state_of s a.file)))
                (same_hand held.is is) (record {
                  origin = origin_of s c a.file true;
                  at_rest = refl;
                  half = f.half told true (λ yes. rests.idle can.idle) hand held.is;
                  map = refl;
                  book = refl;
                });
          };
        }))

    pub in_hand_takes : (now_of : ℕ) → now_of ≡ session
        → PutsAll (line_for (codes "begun") session) out after result
        → TakesRequest C session r (owned s of) (owned new now_of) (devices a out) (devices d after) result
    in_hand_takes now_of is p = record {
      plays = λ told desk rest shown free.
          let e = shown.idle can.idle in
          let limits = limits_of s in
          let next = record (with_queue desk session rest) {
            state = (served limits desk.state r).state;
            hand = Some (flush_by limits desk.state session r);
          } in
          let one : begins limits desk.state r ≡ true = ap (λ (t : State). begins limits t r) e.1
          ∙ ap (nat_lt 0) (flushed told).least in
          record {
            answer = answer.begun session;
            desk = next;
            step = subst (λ (b : Bool). TakesIf b limits session r rest desk (answer.begun session) next)
                (sym one) (refl, refl);
            shown = λ calm. record {
              idle = λ none. absurd (no_hand held.is none);
              held = λ k some. subst (λ (y : FlushInHand). (g : Flush) × (next.hand ≡ Some g)
                  × ShowsFlush new now_of d.file y next.state g) (same_hand held.is some) (
                    flush_by limits desk.state session r,
                    refl,
                    subst (λ (n : ℕ). ShowsFlush new n d.file hand next.state
                        (flush_by limits desk.state session r)) (sym is) (flush_shown told desk e.1),
                  );
            };
            puts = p.put;
          };
      images = λ told desk shown free k rests. begins_leaves told desk shown k rests;
      goes = record {
        readable = inr x.over;
        broken = λ bad. absurd (let e : false ≡ true = sym
            (x.broken ∙ ap (λ (b : Bool). b || false) can.whole)
            ∙ bad in cc);
        block = λ calm. ap (λ (u : InUse). u.block) f.pair;
        frame = f.frame;
        only = sink_serving result p.only;
        disk_cause = calm_disk (λ is. no_disk_fault result (sink_calm result p.only) is) f.cause.calm;
        sink_cause = p.cause;
      };
      of_is = inr is;
      calls = begin_calls x;
    }

  -- whatever the begin came to
  pub begun_takes : (b : Result Begun Refusal) (now_of : ℕ) → BeginsChange C c s new a d b
      → StepsAs (begun_reply b) → (new.is_broken ≡ false → IsStanding new)
      → TellsBegun session b of now_of out after result
      → TakesRequest C session r (owned s of) (owned new now_of) (devices a out) (devices d after) result
  begun_takes (Ok begun.InHand) now_of x step stands p =
      in_hand_takes x (stands (x.broken ∙ ap (λ (b : Bool). b || false) can.whole)) now_of p.0 p.1
  begun_takes (Ok begun.Done) now_of x step stands p =
      subst (λ (n : ℕ). TakesRequest C session r (owned s of) (owned new n) (devices a out)
      (devices d after) result)
      (sym p.0) (done_takes x step p.1)
  begun_takes (Err w) now_of x step stands p =
      subst (λ (n : ℕ). TakesRequest C session r (owned s of) (owned new n) (devices a out)
      (devices d after) result)
      (sym p.0) (refused_takes w x step p.1)
