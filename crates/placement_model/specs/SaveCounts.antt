-- How many saves a flush makes. Each save that a move calls for is paid by the bytes that were packed, or
-- laid, since the last one.
use Rattle.std.specs.Prelude.{◌≡◌, ◌⊎◌, ℕ, ◌+◌, ◌*◌, ◌<◌, ◌≤◌, List, Some}
use Rattle.std.specs.FinMap as fin
use Rattle.extent_table.specs.declared.spot.Spot.{Spot}
use Rattle.extent_table.specs.Extents.{Spots}

-- each object ends at or before an edge, or begins at or past a top
abbrev pub AreAside : Spots → ℕ → ℕ → Type 0
AreAside spots edge top = (name : List ℕ) (s : Spot) → fin.get spots name ≡ Some s
    → (s.place + s.size ≤ edge) ⊎ (top ≤ s.place)

-- an object of the last checkpoint has a byte in common with w bytes at a place
pub record Meets (kept : Spots) (to w : ℕ) : Type 0 where
  pub name : List ℕ
  pub spot : Spot
  pub is : fin.get kept name ≡ Some spot
  pub low : spot.place < to + w
  pub high : to < spot.place + spot.size

-- what is fixed for the counts: what pays for a save, the least gap, and the size of the largest object
pub record SlackCoversSave (pay slack largest : ℕ) : Type 0 where
  pub gap : largest + pay ≤ slack

-- ---- Pack

-- Packing down from a wall, where the last packed object begins at `top`: since the last save, what the
-- checkpoint holds lies aside, and the saves are paid by what was packed before it.
pub record PackCount (pay slack wall total : ℕ) (kept : Spots) (top saves : ℕ) : Type 0 where
  pub top0 : ℕ
  pub edge : ℕ
  pub aside : AreAside kept edge top0
  pub far : edge + slack ≤ top0
  pub paid : pay * saves + top0 ≤ wall
  pub few : wall ≤ top0 + total
  pub below : top ≤ top0

-- ---- Lay

-- Since the last save of laying: what the checkpoint holds ends at or before where the next object is laid,
-- or begins at or past where the first one that waited stood.
pub record LaidSince (pay start : ℕ) (kept : Spots) (next front n : ℕ) : Type 0 where
  pub front0 : ℕ
  pub aside : AreAside kept next front0
  pub paid : pay * n + start ≤ front0
  pub below : front0 ≤ front

-- Laying up from the start: no save yet, or the saves but one are paid by what was laid since the first.
abbrev pub LayCount : ℕ → ℕ → Spots → ℕ → ℕ → ℕ → Type 0
LayCount pay start kept next front saves = (saves ≡ 0)
    ⊎ ((n : ℕ) × (saves ≡ n + 1) × LaidSince pay start kept next front n)
