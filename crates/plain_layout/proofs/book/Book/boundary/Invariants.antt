use Rattle.std.proofs.Common.{◌≡◌, ◌<◌, ◌≤◌, ℕ, false}
use Rattle.segment_layout.specs.Shapes.{is_boundary}
use Rattle.plain_layout.proofs.book.Book.boundary.Given as goal

abbrev pub invariant-boundaries : goal.invariant-boundaries
invariant-boundaries l = record {
  within : l.b ≤ l.i;
  none : (a : ℕ) → l.b < a → a ≤ l.i → is_boundary l.self.used a ≡ false;
}

abbrev pub decreases-boundaries : goal.decreases-boundaries
decreases-boundaries l = l.b
