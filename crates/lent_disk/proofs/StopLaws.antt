-- What a stopped replay leaves is among the images of the disk whose calls are made.
use Rattle.std.proofs.Common.{◌≡◌, ◌∙◌, ap, sym, subst, refl, inl, inr, ℕ, List, [], ◌∷◌, ◌++◌}
use Rattle.std.specs.Prelude.{◌⊎◌, ◌≤◌, ◌<◌, ◌-◌, ◌^◌}
use Rattle.disk_face.specs.Images.{IsImage}
use Rattle.disk_history.specs.Changes.{RecordedCall, Stamped, content_after, during, left_by, unsynced_after}
use Rattle.disk_history.specs.Histories.{History, EndedBy, LeftBefore, LeftSince, MayLeave, unsynced_of}
use Rattle.disk_history.proofs.HistoryLaws.{before_turn, image_during}
use Rattle.lent_disk.specs.Calls.{FitEntries, text_of}
use Rattle.lent_disk.specs.Notings.{BeganFrom, IsLog, changes}
use Rattle.lent_disk.specs.Stops.{IsStopped, unsynced_on}
use Rattle.lent_disk.proofs.LogLaws.{content_replayed}
use Rattle.lent_disk.proofs.SpellingLaws.{one_list}

-- what stands unsynced after calls and others before them
unsynced_is : (h : History) (calls : List Stamped)
    → unsynced_on h (changes calls) ≡ unsynced_after h.base (calls ++ h.calls)
unsynced_is h [] = refl
unsynced_is h (call ∷ calls) =
    ap (λ file. left_by call.change file (unsynced_on h (changes calls)))
    (sym (content_replayed h.base calls h.calls))
    ∙ ap (left_by call.change (content_after h.base (calls ++ h.calls))) (unsynced_is h calls)

-- an image of a stop was left now, or before one of the calls
stopped_before : (h : History) (t : ℕ) (calls : List Stamped) (image : List ℕ) → BeganFrom t calls
    → IsStopped h (changes calls) image
    → IsImage (unsynced_after h.base (calls ++ h.calls)) image ⊎ LeftBefore h.base t (calls ++ h.calls) image
stopped_before h t [] image from is = inl is
stopped_before h t (call ∷ calls) image from (inl is) =
    inl (subst (λ u. IsImage u image) (unsynced_is h (call ∷ calls)) is)
stopped_before h t (call ∷ calls) image from (inr (inl is)) =
    inr (inl (from.0, subst (λ u. IsImage (during call.change u) image) (unsynced_is h calls) is))
stopped_before h t (call ∷ calls) image from (inr (inr is)) =
    inr (earlier (stopped_before h t calls image from.1 is))
  where
    earlier : IsImage (unsynced_after h.base (calls ++ h.calls)) image
        ⊎ LeftBefore h.base t (calls ++ h.calls) image
        → LeftBefore h.base t (call ∷ calls ++ h.calls) image
    earlier (inl now) =
        inl (from.0, image_during call.change (unsynced_after h.base (calls ++ h.calls)) image now)
    earlier (inr left) = inr left

-- it was left since the log was emptied
stopped_is_left : (start h : History) (text : List ℕ) (l : IsLog start h text) (image : List ℕ)
    → EndedBy h.turn h.calls → IsStopped start (changes l.calls) image → LeftSince h start.turn image
stopped_is_left start h text l image ended is = (
  l.later,
  since (subst (λ calls. IsImage (unsynced_after start.base calls) image
      ⊎ LeftBefore start.base start.turn calls image) (sym l.grows)
      (stopped_before start start.turn l.calls image l.since is)),
)
  where
    since : IsImage (unsynced_after start.base h.calls) image ⊎ LeftBefore start.base start.turn h.calls image
        → IsImage (unsynced_of h) image
        ⊎ (((start.turn < h.turn) ⊎ (2 ^ 64 - 1 ≤ h.turn)) × LeftBefore h.base start.turn h.calls image)
    since (inl now) = inl (subst (λ base. IsImage (unsynced_after base h.calls) image) (sym l.same_base) now)
    since (inr left) =
        let here : LeftBefore h.base start.turn h.calls image =
        subst (λ base. LeftBefore base start.turn h.calls image) (sym l.same_base) left in
        inr (before_turn h.base start.turn h.turn h.calls image ended here, here)

-- the same of all calls that the text spells
pub spelled_stop : (start h : History) (text : List ℕ) (calls : List RecordedCall) (image : List ℕ)
    → IsLog start h text → EndedBy h.turn h.calls → text ≡ text_of calls → FitEntries calls
    → IsStopped start calls image → LeftSince h start.turn image
spelled_stop start h text calls image l ended spells fits is =
    stopped_is_left start h text l image ended
    (subst (λ x. IsStopped start x image)
    (one_list calls (changes l.calls) fits l.fits (sym spells ∙ l.spells)) is)

-- ---- once all calls were made

-- what stands unsynced then is what the disk says
made_is : (start h : History) (text : List ℕ) (l : IsLog start h text)
    → unsynced_on start (changes l.calls) ≡ unsynced_of h
made_is start h text l = unsynced_is start l.calls
    ∙ ap (unsynced_after start.base) (sym l.grows)
    ∙ ap (λ base. unsynced_after base h.calls) (sym l.same_base)

pub spelled_made : (start h : History) (text : List ℕ) (calls : List RecordedCall) (image : List ℕ)
    → IsLog start h text → text ≡ text_of calls → FitEntries calls → IsImage (unsynced_on start calls) image
    → MayLeave h image
spelled_made start h text calls image l spells fits is =
    subst (λ u. IsImage u image) (made_is start h text l)
    (subst (λ x. IsImage (unsynced_on start x) image)
    (one_list calls (changes l.calls) fits l.fits (sym spells ∙ l.spells)) is)
