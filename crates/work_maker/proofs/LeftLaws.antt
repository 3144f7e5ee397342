-- The jobs that are left, one after another.
use Rattle.std.proofs.Common.{ℕ, zero, suc, ◌≡◌, ◌+◌, ◌-◌, ◌<◌, [], ◌∷◌, length, ap, refl, arith}
use Rattle.rand_pcg.specs.Lcg.{Lcg}
use Rattle.rand_pcg.specs.Pcg.{pcg32}
use Rattle.work_maker.specs.Jobs.{job_drawn, jobs_from}

pub one_more : (names i n : ℕ) (words : Lcg) → 0 < n → jobs_from names i n words
    ≡ job_drawn names i (pcg32 words).0 (pcg32 (pcg32 words).1).0 (pcg32 (pcg32 (pcg32 words).1).1).0
    ∷ jobs_from names (i + 1) (n - 1) (pcg32 (pcg32 (pcg32 words).1).1).1
one_more names i zero words some = absurd (omega arith)
one_more names i (suc n) words some = let less : suc n - 1 ≡ n = omega arith in rw less refl

pub some_left : (names i n : ℕ) (words : Lcg) → jobs_from names i n words ≡ [] → ⊥
some_left names i zero words none = omega (arith, ap length none)
some_left names i (suc n) words none = omega (arith, ap length none)
