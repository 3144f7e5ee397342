-- The images that are built are left at a moment of the turn, and so since it.
use Rattle.std.specs.Prelude.{◌≡◌, ◌⊎◌, ℕ, ◌<◌, ◌≤◌, nat_le, nat_eq, Bool, true, false, cond, if◌then◌else◌, List, [], ◌∷◌, length, slice_index, Contains, IsTrue, Option, Some, None, refl}
use Rattle.std.proofs.Common.{arith, sym, ◌∙◌, subst, inl, inr}
use Rattle.byte_ranges.proofs.ListLaws.{length-map_below, map_below-index}
use Rattle.disk_face.specs.Counts.{counted}
use Rattle.disk_face.specs.Images.{Unsynced, IsImage, is_unsynced}
use Rattle.disk_face.proofs.ImageLaws.{image_with_range, image_with_length, synced_image}
use Rattle.disk_history.specs.Changes.{RecordedCall, Stamped, during, left_by, content_after, unsynced_after}
use Rattle.disk_history.specs.Changes.RecordedCall.{Wrote, Sized, Synced}
use Rattle.disk_history.specs.Histories.{History, LeftBefore, LeftSince, EndedBy}
use Rattle.disk_history.proofs.HistoryLaws.{image_during}
use Rattle.disk_history.specs.Lawful.{present_is_image}
use Rattle.disk_mem.specs.Turns.{at_turn, ended_by, next_after, within_next, within_next_write, within_write, LeftAt, durable_at, newest_at, torn, torn_at, image_at}
use Rattle.disk_mem.specs.declared.image.Choice.{Choice}
use Rattle.disk_mem.specs.declared.image.Choice.TheVariants.{Durable, Newest, Torn}

-- what the last sync left is an image
synced_is_image : (base : List ℕ) (calls : List Stamped)
    → IsImage (unsynced_after base calls) (unsynced_after base calls).synced
synced_is_image base [] = synced_image base
synced_is_image base (call ∷ earlier) = by_change call.change (synced_is_image base earlier)
  where
    by_change : (change : RecordedCall) → IsImage (unsynced_after base earlier)
        (unsynced_after base earlier).synced
        → IsImage (left_by change (content_after base earlier) (unsynced_after base earlier))
        (left_by change (content_after base earlier) (unsynced_after base earlier)).synced
    by_change (Wrote at bytes) is = image_with_range (unsynced_after base earlier) at (length bytes) _ is
    by_change (Sized n) is = image_with_length (unsynced_after base earlier) n _ is
    by_change Synced is = synced_image (content_after base earlier)

-- an image with b wherever any byte may stand is an image
torn_is_image : (b : ℕ) (u : Unsynced) (file : List ℕ) → IsImage u file → IsImage u (torn b u file)
torn_is_image b u file is =
    record {
      held_length = subst (λ m. Contains u.lengths m) (sym len) is.held_length;
      bytes = λ i low. pick i (omega (arith, low, len))
          (map_below-index (λ k. cond (is_unsynced u k) b (slice_index file k)) (length file) i
          (omega (arith, low, len)));
    }
  where
    len : length (torn b u file) ≡ length file
    len = length-map_below (λ i. cond (is_unsynced u i) b (slice_index file i)) (length file)

    of_test : (loose : Bool) (x y z : ℕ) → z ≡ cond loose x y → IsTrue loose ⊎ (z ≡ y)
    of_test true x y z e = inl refl
    of_test false x y z e = inr e

    pick : (i : ℕ) → i < length file → slice_index (torn b u file) i
        ≡ cond (is_unsynced u i) b (slice_index file i)
        → IsTrue (is_unsynced u i) ⊎ (slice_index (torn b u file) i ≡ slice_index u.synced i)
    pick i low e = elim (of_test (is_unsynced u i) b (slice_index file i) _ e)
        as (λ x. IsTrue (is_unsynced u i) ⊎ (slice_index (torn b u file) i ≡ slice_index u.synced i)) [
          | inl loose ↦ inl loose
          | inr same ↦ elim (is.bytes i low)
              as (λ x. IsTrue (is_unsynced u i) ⊎ (slice_index (torn b u file) i ≡ slice_index u.synced i)) [
                | inl
                    loose ↦ inl loose
                | inr was ↦ inr (same ∙ was)
              ]
        ]

module _ (t : ℕ) (u : Unsynced) (image : List ℕ) where
  before_next : (next : Option Stamped) → IsImage u image → IsImage (within_next t next u) image
  before_next None is = is
  before_next (Some call) is = by_test (nat_eq call.began t)
    where
      by_test : (b : Bool) → IsImage (if b then during call.change u else u) image
      by_test true = image_during call.change u image is
      by_test false = is

  before_next_write : (next : Option Stamped) → IsImage u image → IsImage (within_next_write t next u) image
  before_next_write None is = is
  before_next_write (Some call) is = by_test (nat_eq call.began t) call.change
    where
      by_test : (b : Bool) (change : RecordedCall) → IsImage (if b then within_write change u else u) image
      by_test true (Wrote at bytes) = image_with_range u at (length bytes) image is
      by_test true (Sized n) = is
      by_test true Synced = is
      by_test false change = is

  write_within : (next : Option Stamped) → IsImage (within_next_write t next u) image
      → IsImage (within_next t next u) image
  write_within None is = is
  write_within (Some call) is = by_test (nat_eq call.began t) call.change is
    where
      by_test : (b : Bool) (change : RecordedCall) → IsImage (if b then within_write change u else u) image
          → IsImage (if b then during change u else u) image
      by_test true (Wrote at bytes) here = here
      by_test true (Sized n) here = image_with_length u n image here
      by_test true Synced here = here
      by_test false change here = here

-- Each image that is built is left at a moment of its turn.
pub image_at_is_left : (h : History) (t : ℕ) (choice : Choice) → LeftAt h t (image_at h t choice)
image_at_is_left h t Durable = before_next t _ (durable_at h t) (next_after h t)
    (synced_is_image h.base (ended_by h t))
image_at_is_left h t Newest = before_next t _ (newest_at h t) (next_after h t)
    (present_is_image h.base (ended_by h t))
image_at_is_left h t (Torn b) =
    let u = unsynced_after h.base (ended_by h t) in
    write_within t u (torn_at h t b) (next_after h t)
    (torn_is_image b (within_next_write t (next_after h t) u) (newest_at h t)
    (before_next_write t u (newest_at h t) (next_after h t) (present_is_image h.base (ended_by h t))))

-- What is left at a moment of a turn is left since that turn.
left_before : (base : List ℕ) (t turn : ℕ) (image : List ℕ) (next : Option Stamped) (calls : List Stamped)
    → EndedBy turn calls
    → IsImage (within_next t (at_turn t next calls).0 (unsynced_after base (at_turn t next calls).1)) image
    → ((t < turn) × LeftBefore base t calls image)
    ⊎ IsImage (within_next t next (unsynced_after base calls)) image
unfolding at_turn
left_before base t turn image next [] ended is = inr is
left_before base t turn image next (call ∷ earlier) (by_turn, others) is =
    by_test (nat_le (counted call.began 1) t) refl
    (λ here. left_before base t turn image (Some call) earlier others here) is
  where
    in_call : IsImage (within_next t (Some call) (unsynced_after base earlier)) image
        → IsImage (during call.change (unsynced_after base earlier)) image
    in_call here = on_test (nat_eq call.began t) here
      where
        on_test : (b : Bool) → IsImage (if b then during call.change (unsynced_after base earlier)
            else unsynced_after base earlier) image
            → IsImage (during call.change (unsynced_after base earlier)) image
        on_test true x = x
        on_test false x = image_during call.change (unsynced_after base earlier) image x

    above : nat_le (counted call.began 1) t ≡ false → t < counted call.began 1
    above e = grind (arith, e)

    by_test : (b : Bool) → nat_le (counted call.began 1) t ≡ b
        → (IsImage (within_next t (at_turn t (Some call) earlier).0
        (unsynced_after base (at_turn t (Some call) earlier).1)) image
        → ((t < turn) × LeftBefore base t earlier image)
        ⊎ IsImage (within_next t (Some call) (unsynced_after base earlier)) image)
        → IsImage (within_next t (if b then (next, call ∷ earlier) else at_turn t (Some call) earlier).0
        (unsynced_after base (if b then (next, call ∷ earlier) else at_turn t (Some call) earlier).1))
        image
        → ((t < turn) × LeftBefore base t (call ∷ earlier) image)
        ⊎ IsImage (within_next t next (unsynced_after base (call ∷ earlier))) image
    by_test true e of_earlier here = inr here
    by_test false e of_earlier here = elim (of_earlier here)
        as (λ x. ((t < turn) × LeftBefore base t (call ∷ earlier) image)
        ⊎ IsImage (within_next t next (unsynced_after base (call ∷ earlier))) image) [
          | inl left ↦ inl (left.0, inr left.1)
          | inr inside ↦ inl (omega (arith, above e, by_turn), inl (omega (arith, above e), in_call inside))
        ]

pub left_at_is_since : (h : History) (t : ℕ) (image : List ℕ) → EndedBy h.turn h.calls → t ≤ h.turn
    → LeftAt h t image → LeftSince h t image
left_at_is_since h t image ended t_le is =
    elim (left_before h.base t h.turn image None h.calls ended is) as (λ x. LeftSince h t image) [
      | inl left ↦ (t_le, inr (inl left.0, left.1))
      | inr now ↦ (t_le, inl now)
    ]
