use Rattle.std.proofs.Common.{◌≡◌, ◌≤◌, ◌<◌, ℕ, false}
use Rattle.size_class.specs.Classes.{class_of}
use Rattle.segment_layout.specs.Shapes.{has_room}
use Rattle.plain_layout.proofs.book.Book.buffer_for.Given as goal

abbrev pub invariant-buffers : goal.invariant-buffers
invariant-buffers l = (i : ℕ) → class_of l.size ≤ i → i < l.j
    → has_room l.self.k l.self.caps l.self.used l.size i ≡ false
