-- How the images of a disk in memory go on from call to call.
use Rattle.std.specs.Prelude.{◌⊎◌, ℕ, ◌<◌, ◌≤◌, List, [], ◌∷◌, length, refl, ◌+◌, if◌then◌else◌}
use Rattle.std.proofs.Common.{arith, sym, subst, inl, inr, ap, ◌≡◌}
use Rattle.std.proofs.lemmas.Bool.{cases_lt, le-leb}
use Rattle.byte_ranges.specs.Ranges.{SameOutside, overwritten}
use Rattle.byte_ranges.proofs.RangeLaws.{SameOutside-refl}
use Rattle.disk_face.specs.Counts.{last, counted}
use Rattle.disk_face.specs.Images.{Unsynced, IsImage}
use Rattle.disk_face.proofs.ImageLaws.{image_with_range, image_with_length, image_synced, image_after_range, image_after_length}
use Rattle.disk_face.specs.Moments.{Elapses, Follows, NoMore, Only, ResizedImage}
use Rattle.disk_history.specs.Changes.{RecordedCall, Stamped, during, left_by, changed}
use Rattle.disk_history.specs.Changes.RecordedCall.{Wrote, Sized, Synced}
use Rattle.disk_history.specs.Lawful.{present_is_image}
use Rattle.disk_history.specs.Histories.{History, file_of, unsynced_of, MayLeave, done, undone, LeftBefore, LeftSince, EndedBy, history_state}

-- an image before a call is one within it
pub image_during : (change : RecordedCall) (u : Unsynced) (image : List ℕ) → IsImage u image
    → IsImage (during change u) image
image_during (Wrote at bytes) u image is = image_with_range u at (length bytes) image is
image_during (Sized n) u image is = image_with_length u n image is
image_during Synced u image is = is

-- an image after a call is one within it
image_within : (change : RecordedCall) (file : List ℕ) (u : Unsynced) (image : List ℕ) → IsImage u file
    → IsImage (left_by change file u) image → IsImage (during change u) image
image_within (Wrote at bytes) file u image was is = is
image_within (Sized n) file u image was is = is
image_within Synced file u image was is = subst (λ x. IsImage u x) (sym (image_synced file image is)) was

-- calls that ended by a turn ended by each later one
pub EndedBy_later : (turn later : ℕ) (calls : List Stamped) → turn ≤ later → EndedBy turn calls
    → EndedBy later calls
EndedBy_later turn later [] h e = e
EndedBy_later turn later (call ∷ earlier) h (ended, others) =
    (omega (arith, ended, h), EndedBy_later turn later earlier h others)

-- what was left before or within calls that have ended was left before this turn
pub before_turn : (base : List ℕ) (t turn : ℕ) (calls : List Stamped) (image : List ℕ) → EndedBy turn calls
    → LeftBefore base t calls image → (t < turn) ⊎ (last ≤ turn)
before_turn base t turn [] image e left = absurd left
before_turn base t turn (call ∷ earlier) image (ended, others) (inr left) =
    before_turn base t turn earlier image others left
before_turn base t turn (call ∷ earlier) image (ended, others) (inl (t_le, is)) =
    above t turn call.began t_le ended
  where
    above : (t turn began : ℕ) → t ≤ began → counted began 1 ≤ turn → (t < turn) ⊎ (last ≤ turn)
    above t turn began low h = grind (arith, low, h)

module _ (h : History) (fits : h.turn ≤ last) (ended : EndedBy h.turn h.calls) where
  later : h.turn ≤ counted h.turn 1
  later = omega (arith, fits)

  after : (t : ℕ) → t ≤ h.turn → (t < counted h.turn 1) ⊎ (last ≤ counted h.turn 1)
  after t t_le = elim (cases_lt h.turn last) as (λ x. (t < counted h.turn 1) ⊎ (last ≤ counted h.turn 1)) [
    | inl below ↦ inl (omega (arith, t_le, below))
    | inr high ↦ inr (omega (arith, high))
  ]

  -- time goes on over a call that was done
  pub Elapses_done : (change : RecordedCall) (now : List ℕ → Type 0)
      → ((image : List ℕ) → IsImage (during change (unsynced_of h)) image → now image)
      → Elapses (history_state h) (history_state (done change h)) now
  Elapses_done change now within = record {
    later = omega (arith, later);
    each = λ t image t_le since. each t image (omega (arith, t_le)) since.1;
    keeps = λ t image t_le past. (
      omega (arith, t_le, later),
      inr (after t (omega (arith, t_le)), kept t image (omega (arith, t_le)) past.1),
    );
  }
    where
      each : (t : ℕ) (image : List ℕ) → t ≤ h.turn
          → IsImage (unsynced_of (done change h)) image
          ⊎ (((t < counted h.turn 1) ⊎ (last ≤ counted h.turn 1))
          × LeftBefore h.base t (done change h).calls image) → LeftSince h t image ⊎ now image
      each t image t_le (inl is) = inr (within image
          (image_within change (file_of h) (unsynced_of h) image (present_is_image h.base h.calls) is))
      each t image t_le (inr (_, inl (low, is))) = inr (within image is)
      each t image t_le (inr (_, inr left)) =
          inl (t_le, inr (before_turn h.base t h.turn h.calls image ended left, left))

      kept : (t : ℕ) (image : List ℕ) → t ≤ h.turn
          → IsImage (unsynced_of h) image ⊎ (((t < h.turn) ⊎ (last ≤ h.turn))
          × LeftBefore h.base t h.calls image)
          → LeftBefore h.base t (done change h).calls image
      kept t image t_le (inl is) = inl (t_le, image_during change (unsynced_of h) image is)
      kept t image t_le (inr (_, left)) = inr left

  -- time goes on over a changing call that found no memory
  pub Elapses_undone : (now : List ℕ → Type 0) → Elapses (history_state h) (history_state (undone h)) now
  Elapses_undone now = record {
    later = omega (arith, later);
    each = λ t image t_le since. inl (each t image (omega (arith, t_le)) since.1);
    keeps = λ t image t_le past. (omega (arith, t_le, later), kept t image (omega (arith, t_le)) past.1);
  }
    where
      each : (t : ℕ) (image : List ℕ) → t ≤ h.turn
          → IsImage (unsynced_of h) image ⊎ (((t < counted h.turn 1) ⊎ (last ≤ counted h.turn 1))
          × LeftBefore h.base t h.calls image) → LeftSince h t image
      each t image t_le (inl is) = (t_le, inl is)
      each t image t_le (inr (_, left)) =
          (t_le, inr (before_turn h.base t h.turn h.calls image ended left, left))

      kept : (t : ℕ) (image : List ℕ) → t ≤ h.turn
          → IsImage (unsynced_of h) image ⊎ (((t < h.turn) ⊎ (last ≤ h.turn))
          × LeftBefore h.base t h.calls image)
          → IsImage (unsynced_of h) image ⊎ (((t < counted h.turn 1) ⊎ (last ≤ counted h.turn 1))
          × LeftBefore h.base t h.calls image)
      kept t image t_le (inl is) = inl is
      kept t image t_le (inr (_, left)) = inr (after t t_le, left)

-- What each call may leave, in the words of the disk.

pub Follows_write : (h : History) (at : ℕ) (bytes : List ℕ)
    → Follows (SameOutside at (length bytes)) (MayLeave h) (MayLeave (done (Wrote at bytes) h))
Follows_write h at bytes image is = image_after_range (unsynced_of h) at (length bytes) image is

pub Follows_write_none : (h : History) (at n : ℕ) → Follows (SameOutside at n) (MayLeave h) (MayLeave h)
Follows_write_none h at n image is = (image, is, SameOutside-refl at n image)

pub Follows_length : (h : History) (n : ℕ)
    → Follows (ResizedImage n) (MayLeave h) (MayLeave (done (Sized n) h))
Follows_length h n image is = image_after_length (unsynced_of h) n (length (file_of h)) image
    (present_is_image h.base h.calls).held_length is

pub Follows_length_none : (h : History) (n : ℕ) → Follows (ResizedImage n) (MayLeave h) (MayLeave h)
Follows_length_none h n image is = (image, is, record { either = inl refl; bytes = λ i a b c. refl })

pub Only_sync : (h : History) → Only (file_of h) (MayLeave (done Synced h))
Only_sync h image is = image_synced (file_of h) image is

pub NoMore_sync : (h : History) → NoMore (MayLeave h) (MayLeave (done Synced h))
NoMore_sync h image is = subst (λ x. IsImage (unsynced_of h) x) (sym (image_synced (file_of h) image is))
    (present_is_image h.base h.calls)

-- a write within the file
pub changed_within : (file : List ℕ) (at : ℕ) (bytes : List ℕ) → at + length bytes ≤ length file
    → overwritten file at bytes ≡ changed (Wrote at bytes) file
changed_within file at bytes within =
    ap (λ b. if b then overwritten file at bytes else file)
    (sym (le-leb (at + length bytes) (length file) within))
