use Rattle.std.proofs.Common.{◌≡◌, IsTrue}
use Rattle.store_model.proofs.LineLaws.{IsGathered}
use Rattle.store_core.proofs.lines.put_lines.Given as goal

abbrev pub invariant-names : goal.invariant-names
invariant-names g l = record {
  so_far : IsTrue (g.O.Sink.state l.fn.sink).tells
      → IsGathered (g.O.Sink.state l.fn.sink).given (g.O.Sink.state l.sink).given l.piece.items
      l.table.now l.n;
  calm : (g.O.Sink.state l.sink).faults ≡ (g.O.Sink.state l.fn.sink).faults;
  told : (g.O.Sink.state l.sink).tells ≡ (g.O.Sink.state l.fn.sink).tells;
}
