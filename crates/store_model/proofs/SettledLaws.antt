-- The last step of a flush in hand: what the store and its disk are once it is settled, or the disk failed.
use Rattle.std.specs.Prelude.{◌≡◌, ℕ, ◌+◌, ◌≤◌, true, [], Some, Ok, Err, IsTrue, refl}
use Rattle.std.proofs.Common.{arith, ap, sym, ◌∙◌, subst}
use Rattle.std.specs.FinMap as fin
use Rattle.disk_face.specs.Counts.{counted}
use Rattle.disk_face.specs.States as disk
use Rattle.slot_codec.specs.Choice.{InUse}
use Rattle.slot_codec.specs.Readable.{IsSuperBlock}
use Rattle.slot_pair.specs.Saves.{save_calls}
use Rattle.slot_codec.specs.Reading.{is_version}
use Rattle.slot_codec.specs.Spelling.{cap, head_len}
use Rattle.slot_codec.specs.declared.codec.SuperBlock.{SuperBlock}
use Rattle.logged_pair.specs.Slots.{used_in}
use Rattle.segment_layout.specs.Layouts.{caps_of, grid_of}
use Rattle.extent_table.specs.Extents.{Spots, digests_seen}
use Rattle.placement_model.specs.Held.{IsFreed}
use Rattle.placement_model.proofs.GuardLaws.{freed_nothing}
use Rattle.flush_run.specs.declared.hands.Hands.{Hands}
use Rattle.flush_run.specs.declared.phase.Phase.{Phase}
use Rattle.flush_run.specs.Advances.{HasEnded, HasStopped}
use Rattle.flush_run.specs.Calls.{piece_calls}
use Rattle.flush_run.specs.FlushFrames.{FlushFrame, LeavesOldOrNew}
use Rattle.flush_run.specs.Parts.{FitsVersion, HandsValue, parts_of, saved_digests}
use Rattle.flush_run.specs.Phases.{CanAdvance}
use Rattle.flush_run.specs.Settling.{FlushEnds}
use Rattle.flush_run.proofs.SumLaws.{sums_begin, sums_end, sums_stop}
use Rattle.store_model.specs.declared.answers.Progress.TheVariants as progress
use Rattle.store_model.specs.declared.answers.Refusal.{Refusal}
use Rattle.store_model.specs.declared.hand.Began.{Began}
use Rattle.store_model.specs.Steps.{Settles, StepsHalf, StopsFlush, SumsOfStep}
use Rattle.store_model.specs.Inside.{Inside, IsGoing, IsWhole, hand_of, kept_of, seen}
use Rattle.store_model.specs.Connection.{FlushInHand, IsConnected, StoreValue}
use Rattle.store_model.specs.Digested.{digested_book}
use Rattle.store_model.specs.Flushed.{IsFlushed}
use Rattle.store_model.specs.Halves.{HalfAgrees, Origin, frame_at}
use Rattle.store_model.specs.Stores.{IsStore}
use Rattle.store_model.proofs.HalfLaws.{half_left}
use Rattle.store_model.proofs.SteppedLaws.{can_half, few_since, lower_since, parts_after, saves_since}
use Rattle.store_model.proofs.FlushedLaws.{ended_only, ended_opens, ended_over, ended_rests, ended_store, flushed_view}
use Rattle.store_model.proofs.KeepLaws.{length-records_of}
use Rattle.store_model.proofs.GoingOnLaws.{sums_anew}

module _ {C : ℕ} (began : Began C) (s : Inside C) (v : Phase C) (g : IsGoing began s v) where
  abbrev x1 : HandsValue
  x1 = parts_of s.hands

  abbrev hand : FlushInHand
  hand = hand_of began s v

  abbrev seen_now : StoreValue
  seen_now = seen (Some v) began s

  abbrev frame : Origin → FlushFrame
  frame o = frame_at C seen_now hand o

  -- ---- where it was settled

  module _ (hands2 : Hands C) {a d : disk.State} (ended : HasEnded x1 (parts_of hands2) a d)
      (ends : (f : FlushFrame) → CanAdvance f v x1 a → FlushEnds C f (parts_of hands2) d)
      (start : (o : Origin) × CanAdvance (frame o) v x1 a) where
    abbrev pub settled : Inside C
    settled = record s { hands = hands2; kept_layout = hands2.layout }

    e : FlushEnds C (frame start.0) (parts_of hands2) d
    e = ends (frame start.0) start.1

    names_now : hands2.table.names ≡ (used_in hands2.slots).block.names
    names_now = ended.keeps.names ∙ g.parts.room ∙ ap (λ (b : SuperBlock). b.names) (sym ended.keeps.block)

    block_now : IsSuperBlock (used_in hands2.slots).block
    block_now = subst IsSuperBlock (sym ended.keeps.block) g.goes.goes.hands.block

    fits : FitsVersion (parts_of hands2)
    fits = record {
      plain = ended.keeps.same_form ∙ g.goes.goes.version.plain;
      known = subst (λ n. IsTrue (is_version n)) (sym ended.keeps.version) g.goes.goes.version.known;
      few = subst (λ (m : Spots). fin.len m ≤ cap (used_in hands2.slots).block.names hands2.version)
          (sym ended.spots)
          (subst (λ n. fin.len s.hands.table.now ≤ n)
          (λ i. cap ((sym ended.keeps.block) i).names ((sym ended.keeps.version) i))
          g.goes.goes.version.few);
    }

    view : IsFlushed C (used_in hands2.slots) hands2.table.now (saved_digests (parts_of hands2))
        (caps_of hands2.layout) (grid_of hands2.layout) (kept_of settled)
    view = flushed_view s hands2 e.kept e.kept_digests

    settled_store : IsStore C (kept_of settled)
    settled_store = ended_store hands2 (frame start.0) d e names_now block_now fits (kept_of settled) view

    pub settled_whole : IsWhole settled
    settled_whole =
        let p = parts_after began s v g hands2 hands2.layout ended.keeps refl
        (ended.keeps.divisor ∙ g.parts.divisor) in
        record {
          classes = p.classes;
          wide = p.wide;
          plain = p.plain;
          version = p.version;
          base = p.base;
          few = p.few;
          buf = p.buf;
          divisor = p.divisor;
          kept_divisor = p.kept_divisor;
          kept_caps = p.kept_caps;
          room = p.room;
          cap = p.cap;
          guard_room = p.guard_room;
          table = λ sound. e.table;
          sound = λ sound. settled_store;
          freed = λ sound. subst (λ xs. IsFreed xs hands2.table.now hands2.table.kept) (sym e.empty)
              (subst (λ x. IsFreed [] hands2.table.now x) (sym e.kept) (freed_nothing hands2.table.now));
        }

    pub settled_makes : Settles seen_now (kept_of settled) hand a d
    settled_makes = record {
      turns = ended.turns ∙ ap (λ n. counted a.turn (save_calls n + 2))
          (length-records_of s.hands.table.now g.goes.goes.hands.table.now_named);
      rest = λ i. record (kept_of settled) {
        in_use = ended.pair i;
        now = ended.spots i;
        kept = (e.kept ∙ ended.spots) i;
        book = e.book i;
        kept_book = ((λ j. digested_book C (used_in hands2.slots).block.k (caps_of hands2.layout)
            (grid_of hands2.layout) (e.kept j) (digests_seen hands2.version (e.kept_digests j)))
            ∙ e.book) i;
        moved = ended.row i;
        asked = ended.keeps.asked i;
      };
    }

    next_saves : (used_in hands2.slots).sequence ≤ (used_in s.hands.slots).sequence + 1
    next_saves = omega (arith, ap (λ (u : InUse). u.sequence) ended.pair)

    pub settled_sums : SumsOfStep seen_now (kept_of settled) hand a d (Ok progress.Settled)
    settled_sums =
        let up = sums_end (sums_anew g.sums a) ended in
        record {
          few_saves = saves_since began s v g (used_in hands2.slots).sequence next_saves;
          lower = lower_since began s v g up;
          few = few_since began s v g up;
          calls = (sums_end (sums_begin v x1 a) ended).calls;
        }

    base_now : head_len (used_in hands2.slots).block.names ≡ head_len (used_in s.hands.slots).block.names
    base_now = ap (λ (b : SuperBlock). head_len b.names) ended.keeps.block

    pub settled_over : (IsTrue a.tells → (o : Origin) × HalfAgrees C seen_now hand o a)
        → IsConnected C (kept_of settled) d
    settled_over half = record {
      idle = refl;
      over = λ whole told.
          let at = half (subst IsTrue ended.keeps.disk.stays.told told) in
          ended_over hands2 (frame at.0) d (ends (frame at.0) (can_half began s v g at.0 (λ t. at.1)))
          names_now block_now fits (kept_of settled) view base_now told;
    }

    pub settled_steps : (o : Origin) → HalfAgrees C seen_now hand o a → IsTrue a.tells
        → LeavesOldOrNew (frame o) ((used_in hands2.slots).sequence + 1) a d
        → StepsHalf C o seen_now (kept_of settled) a d (Ok progress.Settled)
    settled_steps o half told left =
        let few = saves_since began s v g (used_in hands2.slots).sequence next_saves in
        let all = half_left seen_now hand o half.loose ((used_in hands2.slots).sequence + 1)
        (omega (arith, few))
        left in
        let now = subst IsTrue (sym ended.keeps.disk.stays.told) told in
        let end = ends (frame o) (can_half began s v g o (λ t. half)) in
        record {
          hand = hand;
          is = refl;
          left = all.0;
          content = all.1;
          on = (
            ended_opens hands2 (frame o) d end names_now block_now fits (kept_of settled) view base_now now,
            ended_only hands2 (frame o) d end names_now block_now fits (kept_of settled) view base_now now,
            ended_rests hands2 (frame o) d end names_now block_now fits (kept_of settled) view base_now now,
          );
        }

  -- ---- where the disk failed

  module _ (hands2 : Hands C) {a d : disk.State} (stopped : HasStopped x1 (parts_of hands2) a d) where
    abbrev pub failed : Inside C
    failed = record s { hands = hands2; kept_layout = hands2.layout; broken = true }

    pub failed_makes : StopsFlush seen_now (kept_of failed) a d
    failed_makes = record {
      same_now = stopped.spots;
      moved = stopped.row;
      asked = stopped.keeps.asked;
      same_block = stopped.keeps.block;
      later = stopped.later;
      one = stopped.one;
      turns = subst (λ n. d.turn ≤ a.turn + save_calls n + (piece_calls + 2))
          (length-records_of s.hands.table.now g.goes.goes.hands.table.now_named) stopped.turns;
      idle = refl;
    }

    pub failed_sums : (fault : Refusal) → SumsOfStep seen_now (kept_of failed) hand a d (Err fault)
    failed_sums fault =
        let up = sums_stop (sums_anew g.sums a) stopped in
        record {
          few_saves = saves_since began s v g (used_in hands2.slots).sequence stopped.one;
          lower = lower_since began s v g up;
          few = few_since began s v g up;
          calls = (sums_stop (sums_begin v x1 a) stopped).calls;
        }

    pub failed_steps : (fault : Refusal) (o : Origin) → HalfAgrees C seen_now hand o a
        → LeavesOldOrNew (frame o) ((used_in hands2.slots).sequence + 1) a d
        → StepsHalf C o seen_now (kept_of failed) a d (Err fault)
    failed_steps fault o half left =
        let few = saves_since began s v g (used_in hands2.slots).sequence stopped.one in
        let all = half_left seen_now hand o half.loose ((used_in hands2.slots).sequence + 1)
        (omega (arith, few))
        left in
        record { hand = hand; is = refl; left = all.0; content = all.1; on = tt }
