use Rattle.std.proofs.Common.{◌++◌, IsTrue, subst, sym}
use Rattle.desk_core.proofs.said.read_said.Goals as goal

pub returns-in-Ok-clause-none : goal.returns-in-Ok-clause-none
returns-in-Ok-clause-none g c told is =
    let still : IsTrue (g.I.Source.state c.read_first.new.input).tells = subst IsTrue
    (sym c.in-Ok.ensures.told) told in
    c.read_behind.ensures.none (c.args.ahead.now ++ (g.I.Source.state c.args.input.now).left)
    (c.in-Ok.ensures.line told) still is
