use Rattle.std.proofs.Common.{◌≡◌, ◌≤◌, ◌*◌, ◌^◌}
use Rattle.segment_layout.specs.Shapes.{start_of}
use Rattle.plain_layout.proofs.book.Book.end.Given as goal

abbrev pub invariant-classes : goal.invariant-classes
invariant-classes l = record {
  so_far : l.end ≡ start_of l.self.k l.self.caps l.cap-index;
  small : l.end ≤ l.cap-index * 2 ^ 65;
}
