use Rattle.std.proofs.Common.{◌≡◌, ℕ, ◌+◌, ◌*◌, ◌^◌, ◌-◌, ◌<◌, ◌≤◌, get_or, length}
use Rattle.span_math.specs.declared.span.Span.{Span}
use Rattle.held_guard.proofs.search.begun_before.Given as goal

abbrev pub invariant-halves : goal.invariant-halves
invariant-halves g l = record {
  ordered : l.low ≤ l.high;
  within : l.high ≤ length l.list.spans;
  below : (k : ℕ) (d : Span) → k < l.low → (get_or l.list.spans k d).place < l.end;
  above : (k : ℕ) (d : Span) → l.high ≤ k → k < length l.list.spans → l.end ≤ (get_or l.list.spans k d).place;
  steps : (r : ℕ) × (l.steps ≡ l.fn.steps + r) × (2 ^ r ≤ 2 * length l.list.spans + 1)
      × (2 ^ r * (2 * (l.high - l.low)) ≤ 2 * length l.list.spans);
}

abbrev pub decreases-halves : goal.decreases-halves
decreases-halves g l = l.high - l.low
