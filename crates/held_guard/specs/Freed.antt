-- What a guard holds: the bytes that the last checkpoint holds though nothing stands there now.
use Rattle.std.specs.Prelude.{◌≡◌, ◌⊎◌, ℕ, ◌+◌, ◌<◌, ◌≤◌, List, length, Contains, All, AllPairs}
use Rattle.span_math.specs.declared.span.Span.{Span}

-- how many spans it has room for, and the spans that were freed since the last checkpoint, by their place
pub record Freed : Type 0 where
  pub room : ℕ
  pub spans : List Span

-- a span is in the list once, and else the list has what it had; its place in the list is not said here
pub record Joins (span : Span) (before after : List Span) : Type 0 where
  pub kept : (s : Span) → Contains before s → Contains after s
  pub joined : Contains after span
  pub only : (s : Span) → Contains after s → Contains before s ⊎ (s ≡ span)
  pub count : length after ≡ length before + 1

-- No span of a list is empty, and each ends at or before the place of every later one. So their places
-- rise, and no two of them share a byte.
pub record AreInOrder (spans : List Span) : Type 0 where
  pub some : All (λ a. 0 < a.size) spans
  pub order : AllPairs (λ a b. a.place + a.size ≤ b.place) spans
