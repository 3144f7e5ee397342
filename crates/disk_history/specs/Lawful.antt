-- The states of a history are lawful. These laws stand here, and not beside the others in proofs, since what
-- an impl says of its ghost members may name specs alone.
use Rattle.std.specs.Prelude.{◌≡◌, ℕ, ◌+◌, ◌<◌, nat_le, Bool, true, false, if◌then◌else◌, List, [], ◌∷◌, length, refl}
use Rattle.std.proofs.Common.{arith, subst, inl, inr}
use Rattle.std.proofs.lemmas.Bool.{leb-true}
use Rattle.byte_ranges.specs.Ranges.{overwritten, SameOutside}
use Rattle.byte_ranges.proofs.RangeLaws.{SameOutside-refl, overwritten-outside}
use Rattle.disk_face.specs.Counts.{last}
use Rattle.disk_face.specs.Images.{Unsynced, IsImage}
use Rattle.disk_face.specs.States.{IsLawful}
use Rattle.disk_face.proofs.ImageLaws.{synced_image, image_written, image_resized}
use Rattle.disk_history.specs.Changes.{RecordedCall, Stamped, changed, left_by, content_after, unsynced_after}
use Rattle.disk_history.specs.Changes.RecordedCall.{Wrote, Sized, Synced}
use Rattle.disk_history.specs.Histories.{History, unsynced_of, LeftSince, history_state}

-- what a write leaves outside its range
pub changed_outside : (file : List ℕ) (at : ℕ) (bytes : List ℕ)
    → SameOutside at (length bytes) file (changed (Wrote at bytes) file)
changed_outside file at bytes = by_test (nat_le (at + length bytes) (length file))
    (λ h. overwritten-outside file at bytes (leb-true (at + length bytes) (length file) h))
  where
    by_test : (b : Bool) → (b ≡ true → SameOutside at (length bytes) file (overwritten file at bytes))
        → SameOutside at (length bytes) file (if b then overwritten file at bytes else file)
    by_test true f = f refl
    by_test false f = SameOutside-refl at (length bytes) file

-- what reads give is an image
image_changed : (change : RecordedCall) (file : List ℕ) (u : Unsynced) → IsImage u file
    → IsImage (left_by change file u) (changed change file)
image_changed (Wrote at bytes) file u is =
    image_written u at (length bytes) file (changed (Wrote at bytes) file) is (changed_outside file at bytes)
image_changed (Sized n) file u is = image_resized u n file is
image_changed Synced file u is = synced_image file

pub present_is_image : (base : List ℕ) (calls : List Stamped)
    → IsImage (unsynced_after base calls) (content_after base calls)
present_is_image base [] = synced_image base
present_is_image base (call ∷ earlier) =
    image_changed call.change (content_after base earlier) (unsynced_after base earlier)
    (present_is_image base earlier)

-- Below the last value no other moment is of this turn.
pub only_now_law : (h : History) (image : List ℕ) → h.turn < last → LeftSince h h.turn image
    → IsImage (unsynced_of h) image
only_now_law h image below (_, inl is) = is
only_now_law h image below (_, inr (inl low, left)) = absurd (omega (arith, low))
only_now_law h image below (_, inr (inr high, left)) = absurd (omega (arith, below, high))

-- as a disk
pub history_lawful : (h : History) → IsLawful (history_state h)
history_lawful h = record {
  has_content = λ _. present_is_image h.base h.calls;
  both_told = λ _. refl;
  counts_now = λ t image t_le is. (omega (arith, t_le), inl is);
  only_now = λ image below since. only_now_law h image (omega (arith, below))
      (subst (λ t. LeftSince h t image) (omega (arith, below)) since);
  turn_fits = omega arith;
}
