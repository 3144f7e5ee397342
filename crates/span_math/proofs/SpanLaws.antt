-- Two spans share a byte exactly where some byte belongs to both.
use Rattle.std.specs.Prelude.{ℕ, ◌↔◌, max}
use Rattle.std.proofs.Common.{arith}
use Rattle.span_math.specs.declared.span.Span.{Span}
use Rattle.span_math.specs.Spans.{Covers, SharesByte}

-- two spans share a byte exactly where some byte belongs to both
pub shared_byte : (a b : Span) → SharesByte a b ↔ ((place : ℕ) × Covers a place × Covers b place)
shared_byte a b = (
  λ h. (
    max a.place b.place,
    (omega (arith, h.0, h.1, h.2, h.3), omega (arith, h.0, h.1, h.2, h.3)),
    (omega (arith, h.0, h.1, h.2, h.3), omega (arith, h.0, h.1, h.2, h.3)),
  ),
  λ h. (omega (arith, h.1, h.2), omega (arith, h.1, h.2), omega (arith, h.1, h.2), omega (arith, h.1, h.2)),
)
