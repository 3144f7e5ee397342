use Rattle.std.specs.Prelude.{◌≡◌, IsTrue, Ok, flat_map, take}
use Rattle.extent_table.specs.Extents.{records_of}
use Rattle.file_commands.specs.Texts.{Gathers, object_line}
use Rattle.file_commands.proofs.map.put_objects.Given as goal

abbrev pub invariant-names : goal.invariant-names
invariant-names g l = record {
  so_far : IsTrue (g.O.Sink.state l.fn.output).tells
      → Gathers (g.O.Sink.state l.fn.output).given l.fn.piece.items (g.O.Sink.state l.output).given
      l.piece.items (flat_map object_line (take l.n (records_of l.table.now))) (Ok tt);
  calm : (g.O.Sink.state l.output).faults ≡ (g.O.Sink.state l.fn.output).faults;
  told : (g.O.Sink.state l.output).tells ≡ (g.O.Sink.state l.fn.output).tells;
}
