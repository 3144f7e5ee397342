-- What a crash may leave: images of a file, now and since a turn.
use Rattle.std.specs.Prelude.{◌≡◌, ◌⊎◌, ℕ, ◌<◌, ◌≤◌, List, length, slice_index}
use Rattle.disk_face.specs.States.{State}

-- an image after a change of the length to n, from an image before: the length is one of the two,
-- and what lies below n and below both ends is the same
pub record ResizedImage (n : ℕ) (old new : List ℕ) : Type 0 where
  pub either : (length new ≡ length old) ⊎ (length new ≡ n)
  pub bytes : (i : ℕ) → i < n → i < length old → i < length new → slice_index new i ≡ slice_index old i

-- each image now is an image before, after a step
abbrev pub Follows : (List ℕ → List ℕ → Type 0) → (List ℕ → Type 0) → (List ℕ → Type 0) → Type 0
Follows step old new = (image : List ℕ) → new image → (before : List ℕ) × old before × step before image

-- each image is this file
abbrev pub Only : List ℕ → (List ℕ → Type 0) → Type 0
Only file images = (image : List ℕ) → images image → image ≡ file

-- each image now was one before
abbrev pub NoMore : (List ℕ → Type 0) → (List ℕ → Type 0) → Type 0
NoMore old new = (image : List ℕ) → new image → old image

-- Time goes on: an image left since an earlier turn had been left before, or may be left now.
pub record Elapses (old new : State) (may_leave : List ℕ → Type 0) : Type 0 where
  pub later : old.turn ≤ new.turn
  pub each : (t : ℕ) (image : List ℕ) → t ≤ old.turn → new.left_since t image
      → old.left_since t image ⊎ may_leave image
  pub keeps : (t : ℕ) (image : List ℕ) → t ≤ old.turn → old.left_since t image → new.left_since t image

-- Between two states no image was left but such that had been left before, or have P.
pub record Leaves (old new : State) (P : List ℕ → Type 0) : Type 0 where
  pub later : old.turn ≤ new.turn
  pub each : (t : ℕ) (image : List ℕ) → t ≤ old.turn → new.left_since t image
      → old.left_since t image ⊎ P image

-- each image left since a turn has P
abbrev pub LeftOnly : State → ℕ → (List ℕ → Type 0) → Type 0
LeftOnly s t P = (image : List ℕ) → s.left_since t image → P image

-- a crash leaves what reads give
abbrev pub Rests : State → Type 0
Rests s = Only s.file s.may_leave
