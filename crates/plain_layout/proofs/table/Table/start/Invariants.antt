use Rattle.std.proofs.Common.{◌≡◌, ◌≤◌, ◌*◌, ◌^◌}
use Rattle.segment_layout.specs.Shapes.{start_of}
use Rattle.plain_layout.proofs.table.Table.start.Given as goal

abbrev pub invariant-classes : goal.invariant-classes
invariant-classes l = record {
  so_far : l.start ≡ start_of l.self.k l.self.header.caps l.d;
  small : l.start ≤ l.d * 2 ^ 65;
}
