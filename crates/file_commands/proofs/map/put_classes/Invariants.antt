use Rattle.std.specs.Prelude.{◌≡◌, IsTrue, Ok, flat_map, take}
use Rattle.byte_ranges.specs.Lists.{below}
use Rattle.file_commands.specs.Texts.{Gathers, class_line}
use Rattle.file_commands.proofs.map.put_classes.Given as goal

abbrev pub invariant-classes : goal.invariant-classes
invariant-classes g l = record {
  so_far : IsTrue (g.O.Sink.state l.fn.output).tells
      → Gathers (g.O.Sink.state l.fn.output).given l.fn.piece.items (g.O.Sink.state l.output).given
      l.piece.items (flat_map (class_line l.k l.header) (take l.c (below 32))) (Ok tt);
  calm : (g.O.Sink.state l.output).faults ≡ (g.O.Sink.state l.fn.output).faults;
  told : (g.O.Sink.state l.output).tells ≡ (g.O.Sink.state l.fn.output).tells;
}
