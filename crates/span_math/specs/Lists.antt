-- Lists of spans, and how many steps are taken.
use Rattle.std.specs.Prelude.{◌≡◌, ℕ, ◌+◌, ◌^◌, ◌≤◌, List}
use Rattle.span_math.specs.declared.span.Span.{Span}

-- how many spans a list has room for, and those that it has
pub record SpansInRoom : Type 0 where
  pub room : ℕ
  pub spans : List Span

-- a count of steps rises by an r such that 2^r is at most a bound
abbrev pub RisesWithin : ℕ → ℕ → ℕ → Type 0
RisesWithin bound before after = (r : ℕ) × (after ≡ before + r) × (2 ^ r ≤ bound)
