use Rattle.std.proofs.Common.{◌-◌, ◌≡◌, ◌++◌, ◌≤◌, IsTrue, length}
use Rattle.ask_lines.specs.Lines.{Lacks}
use Rattle.ask_lines.proofs.line.read_line.Given as goal

abbrev pub invariant-bytes : goal.invariant-bytes
invariant-bytes g l = record {
  within : length l.line.items ≤ l.most;
  lacks : Lacks 10 l.line.items;
  told : (g.I.Source.state l.input).tells ≡ (g.I.Source.state l.fn.input).tells;
  calm : (g.I.Source.state l.input).faults ≡ (g.I.Source.state l.fn.input).faults;
  whole : IsTrue (g.I.Source.state l.fn.input).tells → l.fn.ahead ++ (g.I.Source.state l.fn.input).left
      ≡ l.line.items ++ (l.ahead ++ (g.I.Source.state l.input).left);
}

abbrev pub decreases-bytes : goal.decreases-bytes
decreases-bytes g l = l.most - length l.line.items
