-- What a step of a flush in hand answers, as contracts see the store before and after it.
use Rattle.std.specs.Prelude.{◌≡◌, ℕ, ◌+◌, ◌≤◌, true, Option, Some, None, Result, Ok, Err, IsTrue, refl}
use Rattle.std.proofs.Common.{arith, sym, subst}
use Rattle.logged_pair.specs.Slots.{used_in}
use Rattle.disk_face.specs.States as disk
use Rattle.disk_face.specs.Writes.{KeepsDisk}
use Rattle.flush_run.specs.declared.hands.Hands.{Hands}
use Rattle.flush_run.specs.declared.phase.Phase.{Phase}
use Rattle.flush_run.specs.declared.one_step.Stepped.{Stepped}
use Rattle.flush_run.specs.declared.one_step.Stepped.TheVariants as stepped
use Rattle.flush_run.specs.Advances.{HasStopped}
use Rattle.flush_run.specs.FlushFrames.{FlushFrame, LeavesOldOrNew}
use Rattle.flush_run.specs.Parts.{HandsValue, parts_of}
use Rattle.flush_run.specs.Phases.{CanAdvance, PaidIn}
use Rattle.flush_run.specs.Steps.{GoesThen, KeepsThen, MakesThen, PaidThen}
use Rattle.flush_run.proofs.SumLaws.{steps_some}
use Rattle.flush_run.proofs.OneStepLaws.{StepMoved, StepSettled, step_moved, step_settled}
use Rattle.flush_plan.specs.Lays.{End}
use Rattle.store_model.specs.declared.answers.Progress.{Progress}
use Rattle.store_model.specs.declared.answers.Progress.TheVariants as progress
use Rattle.store_model.specs.declared.answers.Refusal.{Refusal}
use Rattle.store_model.specs.declared.hand.Began.{Began}
use Rattle.store_model.specs.Inside.{HoldsAt, Inside, IsGoing, hand_of, kept_of, seen}
use Rattle.store_model.specs.Steps.{AfterStep, MakesOne, MovesOne, Settles, StepsHalf, StopsFlush, SumsOfStep}
use Rattle.store_model.specs.Connection.{FlushInHand, StoreValue}
use Rattle.store_model.specs.Halves.{HalfAgrees, IsHalfway, Origin, frame_at}
use Rattle.store_model.proofs.SettledLaws.{failed_makes, failed_steps, failed_sums, settled_makes, settled_over, settled_steps, settled_sums, settled_whole}
use Rattle.store_model.proofs.SteppedLaws.{StepsFrom, as_seen, can_half, half_at, moved_going, moved_makes, moved_over, moved_steps, moved_sums, some_can}

-- What is answered, whichever way it goes.
pub record StepAnswers (C : ℕ) (t t2 : StoreValue) (a d : disk.State) (result : Result Progress Refusal)
    : Type 0 where
  pub makes : (h : FlushInHand) → t.in_hand ≡ Some h → MakesOne t t2 h a d result
  pub sums : (h : FlushInHand) → t.in_hand ≡ Some h → SumsOfStep t t2 h a d result
  pub half : IsTrue a.tells → (h : FlushInHand) (o : Origin) → t.in_hand ≡ Some h
      → HalfAgrees C t h o a → StepsHalf C o t t2 a d result
  pub over : AfterStep C t2 d result
  pub frame : KeepsDisk a d

module _ {C : ℕ} {began : Began C} {s : Inside C} {v : Phase C} {t : StoreValue}
    (x : StepsFrom began s v t) where
  abbrev x1 : HandsValue
  x1 = parts_of s.hands

  abbrev frame : Origin → FlushFrame
  frame o = frame_at C (seen (Some v) began s) (hand_of began s v) o

  pub step_counts : 1 ≤ began.left
  step_counts = omega (arith, steps_some v s.hands.table, x.going.steps)

  pub step_more : (h : FlushInHand) → t.in_hand ≡ Some h → 1 ≤ h.left
  step_more = as_seen x (λ y h. 1 ≤ h.left) step_counts

  module _ {a : disk.State} (half : IsHalfway C t a) where
    pub step_start : (o : Origin) × CanAdvance (frame o) v x1 a
    step_start = some_can began s v x.going (half_at x half)

    module _ (hands2 : Hands C) (d : disk.State)
        (left : (f : FlushFrame) → CanAdvance f v x1 a → IsTrue a.tells
        → LeavesOldOrNew f ((used_in hands2.slots).sequence + 1) a d) where
      abbrev x2 : HandsValue
      x2 = parts_of hands2

      left_at : (o : Origin) → HalfAgrees C (seen (Some v) began s) (hand_of began s v) o a → IsTrue a.tells
          → LeavesOldOrNew (frame o) ((used_in hands2.slots).sequence + 1) a d
      left_at o had told = left (frame o) (can_half began s v x.going o (λ u. had)) told

      -- the disk failed
      pub step_failed : (fault : Refusal) → HasStopped x1 x2 a d → (flush : Option (Phase C)) → flush ≡ None
          → StepAnswers C t (seen flush began (record s {
            hands = hands2;
            kept_layout = hands2.layout;
            broken = true;
          })) a d (Err fault)
      step_failed fault stopped flush none =
          let s2 = record s { hands = hands2; kept_layout = hands2.layout; broken = true } in
          let t2 = kept_of s2 in
          subst (λ o. StepAnswers C t (seen o began s2) a d (Err fault)) (sym none) (record {
            makes = as_seen x (λ y h. StopsFlush y t2 a d) (failed_makes began s v x.going hands2 stopped);
            sums = as_seen x (λ y h. SumsOfStep y t2 h a d (Err fault))
                (failed_sums began s v x.going hands2 stopped fault);
            half = λ told h o is had. as_seen x (λ y k. HalfAgrees C y k o a
                → StepsHalf C o y t2 a d (Err fault))
                (λ had. failed_steps began s v x.going hands2 stopped fault o had (left_at o had told)) h is
                had;
            over = record { idle = refl; over = λ sound. absurd (cc) };
            frame = stopped.keeps.disk;
          })

      module _ (E : Type 0) (r : Stepped C) (makes : MakesThen {E = E} v (Ok r) x1 x2 a d)
          (goes : (f : FlushFrame) → CanAdvance f v x1 a → GoesThen {E = E} f (Ok r) x2 d) where
        -- what stands was settled
        module _ (end : End) (is : r ≡ stepped.Settled end) where
          e : StepSettled v x1 x2 a d
          e = step_settled E v x1 x2 a d r end is makes goes

          pub step_settled_whole : (flush : Option (Phase C)) → flush ≡ None
              → HoldsAt flush began (record s { hands = hands2; kept_layout = hands2.layout })
          step_settled_whole flush none = subst (λ o. HoldsAt o began (record s {
            hands = hands2;
            kept_layout = hands2.layout;
          })) (sym none) (settled_whole began s v x.going hands2 e.ended e.ends step_start)

          pub step_settled_answers : (flush : Option (Phase C)) → flush ≡ None
              → StepAnswers C t (seen flush began (record s {
                hands = hands2;
                kept_layout = hands2.layout;
              })) a d (Ok progress.Settled)
          step_settled_answers flush none =
              let s2 = record s { hands = hands2; kept_layout = hands2.layout } in
              let t2 = kept_of s2 in
              subst (λ o. StepAnswers C t (seen o began s2) a d (Ok progress.Settled)) (sym none) (record {
                makes = as_seen x (λ y h. Settles y t2 h a d)
                    (settled_makes began s v x.going hands2 e.ended e.ends step_start);
                sums = as_seen x (λ y h. SumsOfStep y t2 h a d (Ok progress.Settled))
                    (settled_sums began s v x.going hands2 e.ended e.ends step_start);
                half = λ told h o is had. as_seen x (λ y k. HalfAgrees C y k o a
                    → StepsHalf C o y t2 a d (Ok progress.Settled))
                    (λ had. settled_steps began s v x.going hands2 e.ended e.ends step_start o had told
                    (left_at o had told)) h is had;
                over = settled_over began s v x.going hands2 e.ended e.ends step_start (half_at x half);
                frame = e.ended.keeps.disk;
              })

        -- an object was moved
        module _ (v2 : Phase C) (is : r ≡ stepped.Moved v2) (keeps : KeepsThen {E = E} (Ok r) x2)
            (paid : (q : ℕ) → PaidIn q v x1 → PaidThen {E = E} q (Ok r) x2) (n : ℕ)
            (one : began.left ≡ n + 1) where
          m : StepMoved v v2 x1 x2 a d
          m = step_moved E v x1 x2 a d r v2 is makes goes keeps paid

          pub step_moved_going : IsGoing (record began { left = n }) (record s { hands = hands2 }) v2
          step_moved_going = moved_going began s v x.going v2 hands2 m.made m.on m.keeps m.paid step_start n one

          pub step_moved_answers : StepAnswers C t (seen (Some v2) (record began { left = n })
              (record s { hands = hands2 })) a d (Ok progress.Moved)
          step_moved_answers =
              let t2 = seen (Some v2) (record began { left = n }) (record s { hands = hands2 }) in
              record {
                makes = as_seen x (λ y h. MovesOne y t2 h a d)
                    (moved_makes began s v x.going v2 hands2 m.made m.on m.keeps m.paid step_start n one);
                sums = as_seen x (λ y h. SumsOfStep y t2 h a d (Ok progress.Moved))
                    (moved_sums began s v x.going v2 hands2 m.made m.on m.keeps m.paid step_start n one);
                half = λ told h o is had. as_seen x (λ y k. HalfAgrees C y k o a
                    → StepsHalf C o y t2 a d (Ok progress.Moved))
                    (λ had. moved_steps began s v x.going v2 hands2 m.made m.on m.keeps m.paid step_start n one
                    o had told (left_at o had told)) h is had;
                over = moved_over began s v x.going v2 hands2 m.made m.on m.keeps m.paid step_start n one
                    (half_at x half);
                frame = m.made.move.keeps.disk;
              }
