use Rattle.std.proofs.Common.{◌++◌, Ok, Bool, IsTrue, arith, ap}
use Rattle.ask_session.specs.Inputs.{HoldsObject}
use Rattle.ask_session.proofs.BodyLemmas.{no_newline}
use Rattle.ask_session.proofs.body.read_object.Goals as goal

pub returns-in-Ok-true-clause-none : goal.returns-in-Ok-true-clause-none
returns-in-Ok-true-clause-none g c told is =
    let h : HoldsObject (IsTrue (g.I.Source.state c.args.input.now).tells)
    (c.args.ahead.now ++ (g.I.Source.state c.args.input.now).left)
    (c.take_body.new.ahead
    ++ (g.I.Source.state c.take_body.new.input).left) c.args.size c.take_body.new.body.items =
    c.in-Ok-true.ensures.object (ap (λ (b : Bool). Ok b) c.in-Ok-true.field-0-test) in
    let still : IsTrue (g.I.Source.state c.take_body.new.input).tells = grind
    (arith, c.in-Ok-true.ensures.told) in
    no_newline h.object (c.take_body.new.ahead ++ (g.I.Source.state c.take_body.new.input).left) c.args.size
    (c.args.ahead.now ++ (g.I.Source.state c.args.input.now).left) h.long (h.whole told)
    (c.read_newline.ensures.none still is)
