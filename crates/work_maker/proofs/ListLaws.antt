-- How long a list of jobs is, and what comes last.
use Rattle.std.proofs.Common.{ℕ, zero, suc, ◌≡◌, ◌+◌, ◌%◌, [], ◌∷◌, ◌++◌, length, take, refl, ap, arith}
use Rattle.byte_ranges.proofs.ListLaws.{length-map_below}
use Rattle.rand_pcg.specs.Lcg.{Lcg}
use Rattle.rand_pcg.specs.Pcg.{pcg32}
use Rattle.map_model.specs.Requests as ask
use Rattle.work_maker.specs.Jobs.{counting_bytes, job_drawn, jobs_from}

-- the words after those of one job
abbrev after : Lcg → Lcg
after words = (pcg32 (pcg32 (pcg32 words).1).1).1

pub how_many : (names i n : ℕ) (words : Lcg) → length (jobs_from names i n words) ≡ n + 1
how_many names i zero words = refl
how_many names i (suc n) words = let rest = how_many names (i + 1) n (after words) in omega (arith, rest)

pub last_of : (names i n : ℕ) (words : Lcg)
    → jobs_from names i n words ≡ take n (jobs_from names i n words) ++ ask.keep ∷ []
last_of names i zero words = refl
last_of names i (suc n) words =
    ap (λ rest. job_drawn names i (pcg32 words).0 (pcg32 (pcg32 words).1).0
    (pcg32 (pcg32 (pcg32 words).1).1).0 ∷ rest)
    (last_of names (i + 1) n (after words))

pub has_size : (first size : ℕ) → length (counting_bytes first size) ≡ size
has_size first size = length-map_below (λ t. (first + t) % 256) size
