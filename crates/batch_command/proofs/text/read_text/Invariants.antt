use Rattle.std.proofs.Common.{length, ◌-◌, ◌≡◌, ◌≤◌, ◌++◌, IsTrue, take}
use Rattle.batch_command.proofs.text.read_text.Given as goal

abbrev pub invariant-pieces : goal.invariant-pieces
invariant-pieces g l = record {
  within : l.filled ≤ length l.text;
  long : length l.text ≡ length l.fn.text;
  told : (g.I.Source.state l.input).tells ≡ (g.I.Source.state l.fn.input).tells;
  calm : (g.I.Source.state l.input).faults ≡ (g.I.Source.state l.fn.input).faults;
  whole : IsTrue (g.I.Source.state l.fn.input).tells → (g.I.Source.state l.fn.input).left
      ≡ take l.filled l.text ++ (g.I.Source.state l.input).left;
}

abbrev pub decreases-pieces : goal.decreases-pieces
decreases-pieces g l = length l.text - l.filled
