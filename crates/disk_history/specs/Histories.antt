-- A disk in memory as a value: what was synced at first, and the calls since.
use Rattle.std.specs.Prelude.{◌⊎◌, ℕ, ◌<◌, ◌≤◌, List, [], ◌∷◌, min, true, None}
use Rattle.disk_face.specs.Counts.{last, counted}
use Rattle.disk_face.specs.Images.{Unsynced, IsImage}
use Rattle.disk_face.specs.States.{State}
use Rattle.disk_history.specs.Changes.{RecordedCall, Stamped, content_after, unsynced_after, during}

-- the recorded calls stand with the newest first; a call that found no memory for its record has raised turn
-- and faults alone
pub record History : Type 0 where
  pub base : List ℕ
  pub calls : List Stamped
  pub turn : ℕ
  pub faults : ℕ

-- what reads give
abbrev pub file_of : History → List ℕ
file_of h = content_after h.base h.calls

-- what stands unsynced
abbrev pub unsynced_of : History → Unsynced
unsynced_of h = unsynced_after h.base h.calls

-- a crash may leave these bytes now
abbrev pub MayLeave : History → List ℕ → Type 0
MayLeave h image = IsImage (unsynced_of h) image

-- a disk with these bytes, synced, before its first call
abbrev pub fresh : List ℕ → History
fresh bytes = record { base = bytes; calls = []; turn = 0; faults = 0 }

-- after a call that was done
abbrev pub done : RecordedCall → History → History
done change h = record h {
  calls = record { began = h.turn; change = change } ∷ h.calls;
  turn = counted h.turn 1;
}

-- after a changing call that found no memory
abbrev pub undone : History → History
undone h = record h { turn = counted h.turn 1; faults = counted h.faults 1 }

-- left at a moment of that turn or a later one, before or within one of these calls
abbrev pub LeftBefore : List ℕ → ℕ → List Stamped → List ℕ → Type 0
LeftBefore base t [] image = ⊥
LeftBefore base t (call ∷ earlier) image =
    ((t ≤ call.began) × IsImage (during call.change (unsynced_after base earlier)) image)
    ⊎ LeftBefore base t earlier image

-- Left at a moment of that turn or a later one: now, or before. No call that has ended was made in the
-- present turn, but at the last value of the turn.
abbrev pub LeftSince : History → ℕ → List ℕ → Type 0
LeftSince h t image =
    (t ≤ h.turn) × (IsImage (unsynced_of h) image
    ⊎ (((t < h.turn) ⊎ (last ≤ h.turn)) × LeftBefore h.base t h.calls image))

-- each of these calls ended in that turn or before
abbrev pub EndedBy : ℕ → List Stamped → Type 0
EndedBy turn [] = Unit {0}
EndedBy turn (call ∷ earlier) = (counted call.began 1 ≤ turn) × EndedBy turn earlier

-- as a disk
abbrev pub history_state : History → State
history_state h =
    record {
      tells = true;
      file = file_of h;
      tells_images = true;
      may_leave = MayLeave h;
      left_since = LeftSince h;
      turn = min h.turn last;
      faults = h.faults;
      weight = 0;
      longest = 0;
      is_ready = true;
      last_mount = None;
    }
