-- The jobs that a number gives: each is a request, drawn by three words of a generator of random numbers.
use Rattle.std.specs.Prelude.{ℕ, zero, suc, ◌+◌, ◌%◌, ◌==◌, nat_lt, if◌then◌else◌, List, [], ◌∷◌, ◌++◌, map, codes, Some, None}
use Rattle.rand_pcg.specs.Lcg.{Lcg, started, increment_of}
use Rattle.rand_pcg.specs.Pcg.{multiplier_64, pcg32}
use Rattle.std.specs.Fmt.{decimal}
use Rattle.byte_ranges.specs.Lists.{below}
use Rattle.map_model.specs.Requests.{Request}
use Rattle.map_model.specs.Requests as ask

-- so many bytes that count up from a first one, each modulo 256
abbrev pub counting_bytes : ℕ → ℕ → List ℕ
counting_bytes first size = map (λ t. (first + t) % 256) (below size)

-- the name that a word draws, of so many: `o` and the decimal digits of its number
abbrev pub name_drawn : ℕ → ℕ → List ℕ
name_drawn names x = codes "o" ++ decimal (x % names)

-- Job i of three words. The first draws the name; the second draws a put five times in eight, else a
-- removal, a reading or a checkpoint, each once in eight; the third draws the size of a put, from 1 to
-- 8,192 bytes, which count up from i.
abbrev pub job_drawn : ℕ → ℕ → ℕ → ℕ → ℕ → Request
job_drawn names i x y z =
    if nat_lt (y % 8) 5
    then ask.change (record { name = name_drawn names x; object = Some (counting_bytes i (1 + z % 8192)) })
    else if y % 8 == 5 then ask.change (record { name = name_drawn names x; object = None })
    else if y % 8 == 6 then ask.get (name_drawn names x)
    else ask.keep

-- n jobs from the i-th on, each of the next three words, and a checkpoint as the last
abbrev pub jobs_from : ℕ → ℕ → ℕ → Lcg → List Request
jobs_from names i zero words = ask.keep ∷ []
jobs_from names i (suc n) words =
    let x = pcg32 words in
    let y = pcg32 x.1 in
    let z = pcg32 y.1 in
    job_drawn names i x.0 y.0 z.0 ∷ jobs_from names (i + 1) n z.1

-- the jobs of a number, for a store with room for so many names: as many as the count, and a checkpoint
abbrev pub jobs : ℕ → ℕ → ℕ → List Request
jobs number count names = jobs_from names 1 count (started 64 multiplier_64 number (increment_of 64 1))
