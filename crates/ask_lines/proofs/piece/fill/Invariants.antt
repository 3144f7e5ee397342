use Rattle.std.proofs.Common.{◌-◌, ◌≡◌, ◌++◌, ◌≤◌, IsTrue, take, length}
use Rattle.ask_lines.proofs.piece.fill.Given as goal

abbrev pub invariant-parts : goal.invariant-parts
invariant-parts g l = record {
  within : l.done ≤ length l.piece;
  told : (g.I.Source.state l.input).tells ≡ (g.I.Source.state l.fn.input).tells;
  calm : (g.I.Source.state l.input).faults ≡ (g.I.Source.state l.fn.input).faults;
  filled : IsTrue (g.I.Source.state l.fn.input).tells → l.fn.ahead ++ (g.I.Source.state l.fn.input).left
      ≡ take l.done l.piece ++ (l.ahead ++ (g.I.Source.state l.input).left);
}

abbrev pub decreases-parts : goal.decreases-parts
decreases-parts g l = length l.piece - l.done
