-- How many pieces of a buffer a copy takes.
use Rattle.std.specs.Prelude.{◌≡◌, ◌⊎◌, ℕ, ◌+◌, ◌-◌, ◌*◌, ◌/◌, ◌<◌}
use Rattle.disk_face.specs.Counts.{counted}

-- the pieces of at most `len` bytes that n bytes take
abbrev pub pieces : ℕ → ℕ → ℕ
pieces len n = (n + (len - 1)) / len

-- What a copy has made of changing calls once `done` bytes of a size are copied: whole pieces, but for the
-- last.
pub record HasMade (first now len size done : ℕ) : Type 0 where
  pub none : done ≡ 0 → now ≡ first
  pub some : 0 < done → now ≡ counted first (pieces len done)
  pub row : (done ≡ size) ⊎ (done ≡ len * pieces len done)
