use Rattle.std.proofs.Common.{◌≡◌, ◌≤◌, ◌<◌, ℕ}
use Rattle.size_class.specs.Classes.{cell}
use Rattle.plain_layout.proofs.book.Book.is_boundary.Given as goal

abbrev pub invariant-rows : goal.invariant-rows
invariant-rows l = (i d : ℕ) → l.b ≤ i → i < l.j → d < l.b → cell l.self.used i d ≡ 0
