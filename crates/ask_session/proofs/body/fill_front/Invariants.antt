use Rattle.std.proofs.Common.{◌-◌, ◌≡◌, ◌++◌, ◌≤◌, IsTrue, take}
use Rattle.std.specs.Prelude.{vec_capacity, vec_len}
use Rattle.ask_session.proofs.body.fill_front.Given as goal

abbrev pub invariant-pieces : goal.invariant-pieces
invariant-pieces g l = record {
  within : l.done ≤ l.size;
  there : l.done ≤ vec_len l.body;
  room : vec_capacity l.fn.body ≤ vec_capacity l.body;
  told : (g.I.Source.state l.input).tells ≡ (g.I.Source.state l.fn.input).tells;
  calm : (g.I.Source.state l.input).faults ≡ (g.I.Source.state l.fn.input).faults;
  filled : IsTrue (g.I.Source.state l.fn.input).tells → l.fn.ahead ++ (g.I.Source.state l.fn.input).left
      ≡ take l.done l.body.items ++ (l.ahead ++ (g.I.Source.state l.input).left);
}

abbrev pub decreases-pieces : goal.decreases-pieces
decreases-pieces g l = l.size - l.done
