-- Spans of bytes, and what two of them have in common.
use Rattle.std.specs.Prelude.{ℕ, ◌+◌, ◌<◌, ◌≤◌, ◌≡◌, ◌⊎◌}
use Rattle.span_math.specs.declared.span.Span.{Span}

-- the byte at a place belongs to a span
abbrev pub Covers : Span → ℕ → Type 0
Covers s place = (s.place ≤ place) × (place < s.place + s.size)

-- neither span is empty, and each begins before the other ends
abbrev pub SharesByte : Span → Span → Type 0
SharesByte a b = (0 < a.size) × (0 < b.size) × (a.place < b.place + b.size) × (b.place < a.place + a.size)

-- one of the spans is empty, or one ends before the other begins
abbrev pub IsApart : Span → Span → Type 0
IsApart a b = (a.size ≡ 0) ⊎ (b.size ≡ 0) ⊎ (a.place + a.size ≤ b.place) ⊎ (b.place + b.size ≤ a.place)
