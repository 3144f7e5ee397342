use Rattle.std.proofs.Common.{◌-◌, ◌≡◌, ◌++◌, ◌≤◌, IsTrue, length, drop}
use Rattle.ask_lines.proofs.piece.skip.Given as goal

abbrev pub invariant-pieces : goal.invariant-pieces
invariant-pieces g l = record {
  within : l.done ≤ l.size;
  told : (g.I.Source.state l.input).tells ≡ (g.I.Source.state l.fn.input).tells;
  calm : (g.I.Source.state l.input).faults ≡ (g.I.Source.state l.fn.input).faults;
  there : IsTrue (g.I.Source.state l.fn.input).tells
      → l.done ≤ length (l.fn.ahead ++ (g.I.Source.state l.fn.input).left);
  dropped : IsTrue (g.I.Source.state l.fn.input).tells → l.ahead ++ (g.I.Source.state l.input).left
      ≡ drop l.done (l.fn.ahead ++ (g.I.Source.state l.fn.input).left);
}

abbrev pub decreases-pieces : goal.decreases-pieces
decreases-pieces g l = l.size - l.done
