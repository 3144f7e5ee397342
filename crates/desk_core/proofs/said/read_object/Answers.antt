use Rattle.std.proofs.Common.{◌++◌, Bool, Ok, IsTrue, arith, ap, subst, sym}
use Rattle.ask_session.proofs.BodyLemmas.{no_newline}
use Rattle.desk_core.proofs.said.read_object.Goals as goal

pub returns-in-Ok-true-clause-none : goal.returns-in-Ok-true-clause-none
returns-in-Ok-true-clause-none g c told is =
    let still : IsTrue (g.I.Source.state c.fill.new.input).tells = subst IsTrue
    (sym c.in-Ok-true.ensures.told)
    told in
    no_newline c.fill.new.piece (c.fill.new.ahead ++ (g.I.Source.state c.fill.new.input).left) c.args.size
    (c.args.ahead.now ++ (g.I.Source.state c.args.input.now).left) (grind arith)
    (c.in-Ok-true.ensures.filled told (ap (λ (b : Bool). Ok b) c.in-Ok-true.field-0-test))
    (c.take_newline.ensures.none still is)
