-- What a crash may leave of a desk, event by event.
use Rattle.std.specs.Prelude.{◌≡◌, ◌⊎◌, ℕ, Bool, true, false, ◌&&◌, List, Option, Some, None, Result, IsTrue, refl}
use Rattle.std.proofs.Common.{arith, ap, sym, ◌∙◌, subst, inl, inr}
use Rattle.std.proofs.Math.Bool.{and-false}
use Rattle.disk_face.specs.Frames.{Unchanged}
use Rattle.disk_face.specs.States as disk
use Rattle.disk_face.specs.States.{IsLawful}
use Rattle.disk_face.proofs.MomentLaws.{Leaves-none, Leaves-weaken}
use Rattle.size_class.specs.declared.TheConstants.{SIZE_MAX}
use Rattle.map_model.specs.Maps.{Map}
use Rattle.map_model.specs.Requests.{Request}
use Rattle.segment_layout.specs.Books.{Book}
use Rattle.table_rules.specs.Opening.{Opens}
use Rattle.store_model.specs.Connection.{FlushInHand, SameOnTable, StoreValue, base_of, limits_of, state_of}
use Rattle.store_model.specs.States.{Limits, State, served}
use Rattle.store_model.specs.Halves.{IsReadable}
use Rattle.store_model.specs.Stores.{IsStore}
use Rattle.store_model.proofs.HalfLaws.{half_read}
use Rattle.store_model.proofs.OverLaws.{kept_image}
use Rattle.ask_text.specs.declared.ends.End.{End}
use Rattle.ask_session.specs.Serving.{IsServingImage, Serves, is_changing, is_disk_fault}
use Rattle.ask_session.proofs.MakesLaws.{makes}
use Rattle.desk_model.specs.Answers.{Answer}
use Rattle.desk_model.specs.Desks.{Desk, Flush, StepsOn, TakesIf}
use Rattle.desk_core.specs.Images.{BeganAt, Checkpoint, LeavesEnd, LeavesFrom, LeavesStep, OpensTo, RestsFrom, kept_of, settled_of}
use Rattle.desk_core.specs.Shows.{ShowsStore}
use Rattle.desk_core.proofs.HandLaws.{no_hand}

pub opens_with : {classes : ℕ} (image : List ℕ) {m n : Map} {b c : Book} → n ≡ m → c ≡ b
    → Opens classes SIZE_MAX image m b → Opens classes SIZE_MAX image n c
opens_with {classes} image {m} {n} {b} {c} maps books is =
    subst (λ (x : Map). Opens classes SIZE_MAX image x c) (sym maps)
    (subst (λ (y : Book). Opens classes SIZE_MAX image m y) (sym books) is)

-- ---- the checkpoint that is settled

pub settled_none : (k : Checkpoint) (d : Desk) → d.hand ≡ None → settled_of k d ≡ kept_of d.state
settled_none k d is = ap (λ (o : Option Flush). settled_of k (record d { hand = o })) is

pub settled_some : (k : Checkpoint) (d : Desk) (f : Flush) → d.hand ≡ Some f → settled_of k d ≡ k
settled_some k d f is = ap (λ (o : Option Flush). settled_of k (record d { hand = o })) is

module _ (s : StoreValue) (of : ℕ) (file : List ℕ) (d : Desk) (shown : ShowsStore s of file d)
    (k : Checkpoint) where
  pub settled_idle : s.in_hand ≡ None → settled_of k d ≡ kept_of (state_of s file)
  settled_idle none = settled_none k d (shown.idle none).0 ∙ ap kept_of (shown.idle none).1

  pub settled_held : (h : FlushInHand) → s.in_hand ≡ Some h → settled_of k d ≡ k
  settled_held h is = settled_some k d (shown.held h is).0 (shown.held h is).1

-- what rests so rests from the checkpoint that is settled
pub rests_settled : {C : ℕ} (s : StoreValue) (of : ℕ) (a : disk.State) (d : Desk)
    → ShowsStore s of a.file d → (k : Checkpoint) → RestsFrom C s a k → RestsFrom C s a (settled_of k d)
rests_settled {C} s of a d shown k rests = record {
  idle = rests.idle;
  held = λ h is. subst (λ (x : Checkpoint). BeganAt C s h a x) (sym (settled_held s of a.file d shown k h is))
      (rests.held h is);
}

-- the same of an answer that is a fault of the disk where the other is
pub leaves_as : {C : ℕ} {T S : Type 0} (new : StoreValue) (a d : disk.State) (one other : Checkpoint)
    (x : Result T End) (y : Result S End) → (is_disk_fault y ≡ false → is_disk_fault x ≡ false)
    → LeavesFrom C new a d one other x → LeavesFrom C new a d one other y
leaves_as new a d one other x y calm h = record { left = h.left; rests = λ is. h.rests (calm is) }

-- ---- where nothing is done

-- the store and its disk are the same
pub leaves_same : {C : ℕ} {T : Type 0} (s t : StoreValue) (of : ℕ) (a d : disk.State) (desk : Desk)
    (other : Checkpoint) (result : Result T End) → ShowsStore s of a.file desk → t ≡ s → d ≡ a
    → (k : Checkpoint) → RestsFrom C s a k → LeavesFrom C t a d (settled_of k desk) other result
leaves_same {C} s t of a d desk other result shown same still k rests =
    subst (λ (x : StoreValue). LeavesFrom C x a d (settled_of k desk) other result) (sym same)
    (subst (λ (y : disk.State). LeavesFrom C s a y (settled_of k desk) other result) (sym still) (record {
      left = Leaves-none a (λ image. OpensTo C (settled_of k desk) image ⊎ OpensTo C other image);
      rests = λ calm. rests_settled s of a desk shown k rests;
    }))

-- the disk is unchanged
pub leaves_unchanged : {C : ℕ} {T : Type 0} (s : StoreValue) (of : ℕ) (a d : disk.State) (desk : Desk)
    (other : Checkpoint) (result : Result T End) → IsLawful a → Unchanged a d → IsTrue a.tells
    → ShowsStore s of a.file desk
    → (k : Checkpoint) → RestsFrom C s a k → LeavesFrom C s a d (settled_of k desk) other result
leaves_unchanged {C} s of a d desk other result lawful same told shown k rests = record {
  left = record {
    later = same.since.later;
    each = λ t image low since. inl (elim (same.since.each t image low since)
        as (λ _. a.left_since t image)
        [ inl past ↦ past | inr may ↦ lawful.counts_now t image low may ]);
  };
  rests = λ calm. record {
    idle = λ none image may. subst (λ (x : List ℕ). SameOnTable (base_of s) s.kept x image)
        (sym (same.same_file told)) (rests.idle none image (same.images image may));
    held = λ h is.
        let b = (rests_settled s of a desk shown k rests).held h is in
        record {
          origin = b.origin;
          at_rest = b.at_rest;
          half = half_read same told b.half;
          map = b.map;
          book = b.book;
        };
  };
}

-- ---- what a crash may leave now

pub opens_now : {C : ℕ} (s : StoreValue) (of : ℕ) (a : disk.State) (d : Desk)
    → (s.in_hand ≡ None → IsStore C s) → s.is_broken ≡ false → IsReadable C s a → IsTrue a.tells
    → ShowsStore s of a.file d → (k : Checkpoint) → RestsFrom C s a k → (image : List ℕ) → a.may_leave image
    → OpensTo C (settled_of k d) image ⊎ OpensTo C (kept_of d.state) image
opens_now {C} s of a d sound whole (inl over) told shown k rests image may =
    let one = kept_image s (sound over.idle) a.file (over.over whole told) image
    (rests.idle over.idle image may) in
    inl (subst (λ (x : Checkpoint). OpensTo C x image) (sym (settled_idle s of a.file d shown k over.idle))
    one.opens)
opens_now {C} s of a d sound whole (inr half) told shown k rests image may =
    let b = rests.held half.hand half.is in
    let f = (shown.held half.hand half.is).2 in
    let is = settled_held s of a.file d shown k half.hand half.is in
    let e = b.half.flies.opens refl in
    let opened : Opens C SIZE_MAX image e.m e.b =
    record { table = e.t; opens = (e.images b.at_rest image may).opens } in
    elim e.checkpoint.either as (λ _. OpensTo C (settled_of k d) image ⊎ OpensTo C (kept_of d.state) image) [
      | inl old ↦ inl (opens_with image
          (ap (λ (x : Checkpoint). x.map) is ∙ sym b.map ∙ sym old.0)
          (ap (λ (x : Checkpoint). x.book) is ∙ sym b.book ∙ sym old.1) opened)
      | inr new ↦ inr (opens_with image (f.kept ∙ f.map ∙ b.half.flies.content.live ∙ sym new.0)
          (f.kept_book ∙ sym new.1) opened)
    ]

-- ---- a request that was served while no flush was in hand

module _ {C : ℕ} {T : Type 0} (r : Request) (s new : StoreValue) (of : ℕ) (a d : disk.State)
    (result : Result T End) (idle : s.in_hand ≡ None) (x : Serves C r s new a d result)
    (told : IsTrue a.tells) where
  abbrev limits : Limits
  limits = limits_of s

  serves_image : (image : List ℕ) → IsServingImage C s r a.file image
      → OpensTo C (kept_of (state_of s a.file)) image
      ⊎ OpensTo C (kept_of (served limits (state_of s a.file) r).state) image
  serves_image image is = elim is.opens as (λ _. OpensTo C (kept_of (state_of s a.file)) image
      ⊎ OpensTo C (kept_of (served limits (state_of s a.file) r).state) image) [
        | inl kept ↦ inl kept
        | inr now ↦ elim (makes limits (state_of s a.file) r)
            as (λ _. OpensTo C (kept_of (state_of s a.file)) image
            ⊎ OpensTo C (kept_of (served limits (state_of s a.file) r).state) image) [
              | inl one ↦ inr (opens_with image one.kept one.book now.1)
              | inr none ↦ absurd (omega (arith, now.0, none.least))
            ]
      ]

  pub serves_leaves : (desk : Desk) → ShowsStore s of a.file desk → (k : Checkpoint) → RestsFrom C s a k
      → LeavesFrom C new a d (settled_of k desk) (kept_of (served limits desk.state r).state) result
  serves_leaves desk shown k rests =
      subst (λ (y : Checkpoint). LeavesFrom C new a d y (kept_of (served limits desk.state r).state) result)
      (sym (settled_idle s of a.file desk shown k idle))
      (subst (λ (t : State). LeavesFrom C new a d (kept_of (state_of s a.file))
      (kept_of (served limits t r).state) result) (sym (shown.idle idle).1) (record {
        left = Leaves-weaken (λ image. OpensTo C (kept_of (state_of s a.file)) image
            ⊎ OpensTo C (kept_of (served limits (state_of s a.file) r).state) image) serves_image
            (x.left told (rests.idle idle));
        rests = λ calm. record {
          idle = λ none. x.rests told (x.broken ∙ ap (λ (b : Bool). is_changing r && b) calm
              ∙ and-false (is_changing r)) (rests.idle idle);
          held = λ h is. absurd (no_hand is x.over.idle);
        };
      }))

-- ---- the checkpoint after an event

pub takes_kept : (b : Bool) (limits : Limits) (session : ℕ) (r : Request) (rest : List Request) (d : Desk)
    (a : Answer) (t : Desk) → TakesIf b limits session r rest d a t
    → kept_of t.state ≡ kept_of (served limits d.state r).state
takes_kept true bounds session r rest d a t is = ap (λ (y : Desk). kept_of y.state) is.1
takes_kept false bounds session r rest d a t is = ap kept_of is.1.state

pub steps_kept : (o : Option Flush) (d : Desk) (a : Answer) (t : Desk) → StepsOn o d a t
    → kept_of t.state ≡ kept_of d.state
steps_kept None d a t is = ap (λ (y : Desk). kept_of y.state) is.1
steps_kept (Some f) d a t (inl m) = ap (λ (y : Desk). kept_of y.state) m.desk
steps_kept (Some f) d a t (inr m) = ap (λ (y : Desk). kept_of y.state) m.desk

-- ---- events

-- an event in which the store and its disk stay
pub step_same : {C : ℕ} {T : Type 0} (steps : Answer → Desk → Type 0) (s t : StoreValue) (of : ℕ)
    (a d : disk.State) (desk : Desk) (result : Result T End) → ShowsStore s of a.file desk → t ≡ s → d ≡ a
    → LeavesStep C steps s t a d desk result
step_same steps s t of a d desk result shown same still k rests answer after is =
    leaves_same s t of a d desk (kept_of after.state) result shown same still k rests

-- an event that leaves the desk's checkpoint
pub step_leaves : {C : ℕ} {T S : Type 0} (s t : StoreValue) (a d : disk.State) (desk : Desk)
    (x : Result T End) (y : Result S End) → (is_disk_fault y ≡ false → is_disk_fault x ≡ false)
    → LeavesEnd C s t a d desk x → LeavesStep C (StepsOn desk.hand desk) s t a d desk y
step_leaves {C} s t a d desk x y calm ends k rests answer after is =
    subst (λ (z : Checkpoint). LeavesFrom C t a d (settled_of k desk) z y)
    (sym (steps_kept desk.hand desk answer after is))
    (leaves_as t a d (settled_of k desk) (kept_of desk.state) x y calm (ends k rests))

pub end_leaves : {C : ℕ} {T S : Type 0} (s t : StoreValue) (a d : disk.State) (desk : Desk)
    (x : Result T End) (y : Result S End) → (is_disk_fault y ≡ false → is_disk_fault x ≡ false)
    → LeavesEnd C s t a d desk x → LeavesEnd C s t a d desk y
end_leaves s t a d desk x y calm ends k rests =
    leaves_as t a d (settled_of k desk) (kept_of desk.state) x y calm (ends k rests)
