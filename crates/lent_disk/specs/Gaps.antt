-- Gaps of a file: spans that read as zeros, whatever the memory has there.
use Rattle.std.specs.Prelude.{◌⊎◌, ℕ, ◌-◌, ◌<◌, ◌≤◌, length, max, min, List, replicate}
use Rattle.byte_ranges.specs.Ranges.{overwritten}
use Rattle.lent_disk.specs.declared.gap.Gap.{Gap}

-- a gap of a file of so many bytes
abbrev pub IsGapOf : Gap → ℕ → Type 0
IsGapOf gap n = (gap.from ≤ gap.to) × (gap.to ≤ n)

-- a file with zeros in a gap
abbrev pub zeroed : Gap → List ℕ → List ℕ
zeroed gap file = overwritten file gap.from (replicate (gap.to - gap.from) 0)

-- what memory reads as through two gaps
abbrev pub seen : Gap → Gap → List ℕ → List ℕ
seen lower upper memory = zeroed upper (zeroed lower memory)

-- two gaps of a file of so many bytes at the front of memory
abbrev pub HasGaps : Gap → Gap → ℕ → List ℕ → Type 0
HasGaps lower upper end memory = IsGapOf lower end × IsGapOf upper end × (end ≤ length memory)

-- the parts of a gap before a position, and from a position on
abbrev pub before : ℕ → Gap → Gap
before at gap = record { from = min gap.from at; to = min gap.to at }

abbrev pub since : ℕ → Gap → Gap
since at gap = record { from = max gap.from at; to = max gap.to at }

-- its part within n bytes at a position, as a gap of these
abbrev pub part_at : ℕ → ℕ → Gap → Gap
part_at at n gap = record { from = min (gap.from - at) n; to = min (gap.to - at) n }

-- no byte from a position up to another is in a gap
abbrev pub Misses : ℕ → ℕ → Gap → Type 0
Misses at after gap = (i : ℕ) → at ≤ i → i < after → (i < gap.from) ⊎ (gap.to ≤ i)
