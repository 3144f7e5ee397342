-- Where a buffer is full but for d bytes, its class has few bytes in its payload segment: few beside what
-- the buffer holds, where that is at least d, and else few beside d.
use Rattle.std.specs.Prelude.{ℕ, ◌+◌, ◌*◌, ◌<◌, ◌≤◌}
use Rattle.std.proofs.Common.{arith}
use Rattle.std.proofs.Math.Nat.{div-lt_iff_lt-mul, mul-le-mul_right}
use Rattle.segment_layout.specs.Shapes.{buffer_of}

pub light_bytes : (k v t d q : ℕ) → 0 < k → buffer_of k v < t + d → q ≤ v → d ≤ t → q ≤ 2 * k * t
light_bytes k v t d q some near within light =
    let below : v < (t + d) * k = (div-lt_iff_lt-mul some).0 near in
    omega (arith, below, mul-le-mul_right k light)

pub heavy_bytes : (k v t d q : ℕ) → 0 < k → buffer_of k v < t + d → q ≤ v → t < d → q < 2 * k * d
heavy_bytes k v t d q some near within heavy =
    let below : v < (t + d) * k = (div-lt_iff_lt-mul some).0 near in
    let less : t ≤ d = omega arith in
    omega (arith, below, mul-le-mul_right k less)
