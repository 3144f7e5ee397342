-- What a crash may leave of a desk in a step of its flush.
use Rattle.std.specs.Prelude.{◌≡◌, ◌⊎◌, ℕ, List, Some, Result, Ok, Err, IsTrue}
use Rattle.std.proofs.Common.{ap, sym, ◌∙◌, subst, inl, inr}
use Rattle.disk_face.specs.Moments.{Leaves}
use Rattle.disk_face.specs.States as disk
use Rattle.disk_face.proofs.MomentLaws.{Leaves-weaken}
use Rattle.store_model.specs.declared.answers.Progress.{Progress}
use Rattle.store_model.specs.declared.answers.Progress.TheVariants as progress
use Rattle.store_model.specs.declared.answers.Refusal.{Refusal}
use Rattle.store_model.specs.Steps.{IsStep, MovesOne, Settles, StepsHalf}
use Rattle.store_model.specs.Connection.{FlushInHand, StoreValue}
use Rattle.store_model.specs.Halves.{HalfAgrees, IsHalfImage, IsHalfway}
use Rattle.ask_text.specs.declared.ends.End.TheVariants as ends
use Rattle.desk_model.specs.Desks.{Desk}
use Rattle.desk_core.specs.Images.{BeganAt, Checkpoint, LeavesEnd, OpensTo, RestsFrom, kept_of, settled_of}
use Rattle.desk_core.specs.Shows.{ShowsFlush, ShowsStore}
use Rattle.desk_core.proofs.HandLaws.{no_hand, same_hand}
use Rattle.desk_core.proofs.ImageLaws.{opens_with, settled_held}

module _ {C : ℕ} (session : ℕ) (s t : StoreValue) (a d : disk.State) (half : IsHalfway C s a)
    (told : IsTrue a.tells) (desk : Desk) (shown : ShowsStore s session a.file desk) where
  abbrev h : FlushInHand
  h = half.hand

  module _ (result : Result Progress Refusal) (st : IsStep C s t a d result) (k : Checkpoint)
      (rests : RestsFrom C s a k) where
    -- what the flush began with
    began : BeganAt C s h a k
    began = rests.held h half.is

    steps : StepsHalf C began.origin s t a d result
    steps = st.half told h began.origin half.is began.half

    same : steps.hand ≡ h
    same = same_hand steps.is half.is

    f : ShowsFlush s session a.file h desk.state (shown.held h half.is).0
    f = (shown.held h half.is).2

    settled : settled_of k desk ≡ k
    settled = settled_held s session a.file desk shown k h half.is

    image_is : (image : List ℕ) → IsHalfImage C s steps.hand began.origin image
        → OpensTo C (settled_of k desk) image ⊎ OpensTo C (kept_of desk.state) image
    image_is image is = elim is.opens
        as (λ _. OpensTo C (settled_of k desk) image ⊎ OpensTo C (kept_of desk.state) image) [
          | inl old ↦ inl (opens_with image (ap (λ (x : Checkpoint). x.map) settled ∙ sym began.map)
              (ap (λ (x : Checkpoint). x.book) settled ∙ sym began.book) old)
          | inr new ↦ inr (opens_with image (f.kept ∙ f.map ∙ began.half.flies.content.live)
              (f.kept_book ∙ ap (λ (x : FlushInHand). x.book_after) (sym same)) new)
        ]

    left : Leaves a d (λ image. OpensTo C (settled_of k desk) image ⊎ OpensTo C (kept_of desk.state) image)
    left = Leaves-weaken (λ image. OpensTo C (settled_of k desk) image ⊎ OpensTo C (kept_of desk.state) image)
        image_is (steps.left began.at_rest)

  pub moved_leaves : IsStep C s t a d (Ok progress.Moved)
      → LeavesEnd C s t a d desk (Ok progress.Moved)
  moved_leaves st k rests =
      let m : MovesOne s t h a d = st.makes h half.is in
      let r : Result Progress Refusal = Ok progress.Moved in
      let b = began r st k rests in
      let x = steps r st k rests in
      let is_hand = same r st k rests in
      let all = settled r st k rests in
      let goes : HalfAgrees C t (record h { left = m.left }) b.origin d =
      subst (λ (y : FlushInHand). HalfAgrees C t (record y { left = m.left }) b.origin d) is_hand
      (x.on m.left (subst (λ (y : FlushInHand). t.in_hand ≡ Some (record y { left = m.left })) (sym is_hand)
      m.in_hand)) in
      record {
        left = left r st k rests;
        rests = λ calm. record {
          idle = λ none. absurd (no_hand m.in_hand none);
          held = λ g is. subst (λ (y : FlushInHand). BeganAt C t y d (settled_of k desk))
              (same_hand m.in_hand is) (record {
                origin = b.origin;
                at_rest = b.at_rest;
                half = goes;
                map = b.map ∙ ap (λ (y : Checkpoint). y.map) (sym all);
                book = b.book ∙ ap (λ (y : Checkpoint). y.book) (sym all);
              });
        };
      }

  pub settled_leaves : IsStep C s t a d (Ok progress.Settled)
      → LeavesEnd C s t a d desk (Ok progress.Settled)
  settled_leaves st k rests =
      let n : Settles s t h a d = st.makes h half.is in
      let r : Result Progress Refusal = Ok progress.Settled in
      let x = steps r st k rests in
      record {
        left = left r st k rests;
        rests = λ calm. record {
          idle = λ none. (x.on).2;
          held = λ g is. absurd (no_hand is (ap (λ (y : StoreValue). y.in_hand) n.rest));
        };
      }

  pub failed_leaves : (fault : Refusal) → IsStep C s t a d (Err fault)
      → LeavesEnd {T = Progress} C s t a d desk (Err ends.Disk)
  failed_leaves fault st k rests = record {
    left = left (Err fault) st k rests;
    rests = λ calm. absurd (cc);
  }
