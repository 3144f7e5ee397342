use Rattle.std.proofs.Common.{◌++◌, ◌≡◌, IsTrue, Err, ap, arith, None, Bool, subst, ◌∷◌}
use Rattle.std.proofs.lemmas.Grind.{common_steps}
use Rattle.ask_text.specs.declared.ends.End.{End}
use Rattle.ask_text.specs.declared.ends.End.TheVariants as ends
use Rattle.ask_session.specs.Inputs.{HoldsObject, size_asked}
use Rattle.ask_session.proofs.RequestLemmas.{no_object, read_bare, read_sized}
use Rattle.ask_session.proofs.request.read_request.Goals as goal

pub returns-in_default-clause-read : goal.returns-in_default-clause-read
returns-in_default-clause-read g c =
    let none : size_asked c.in_ok-ask.ask ≡ None = grind arith in
    read_bare (IsTrue (g.I.Source.state c.args.input.now).tells) (c.args.ahead.now
    ++ (g.I.Source.state c.args.input.now).left)
    (c.read_first.new.ahead
    ++ (g.I.Source.state c.read_first.new.input).left) c.args.body.now.items c.in_ok-ask.ask
    c.in_ok-ask.ensures.ask none c.in_ok-ask.ensures.line

pub returns-in-Ok-clause-read : goal.returns-in-Ok-clause-read
returns-in-Ok-clause-read g c =
    read_sized (IsTrue (g.I.Source.state c.args.input.now).tells)
    (c.args.ahead.now ++ (g.I.Source.state c.args.input.now).left)
    (c.read_first.new.ahead ++ (g.I.Source.state c.read_first.new.input).left)
    (c.read_object.new.ahead ++ (g.I.Source.state c.read_object.new.input).left) c.read_object.new.body.items
    c.in_ok-ask.ask c.in-Some.size c.in_ok-ask.ensures.ask c.in-Some.ensures c.in_ok-ask.ensures.line
    (subst (λ (b : Bool). HoldsObject (IsTrue b)
    (c.read_first.new.ahead ++ (g.I.Source.state c.read_first.new.input).left)
    (10 ∷ (c.read_object.new.ahead ++ (g.I.Source.state c.read_object.new.input).left)) c.in-Some.size
    c.read_object.new.body.items) c.in_ok-ask.ensures.told c.in-Ok.ensures.object)

pub returns-in-Err-clause-none : goal.returns-in-Err-clause-none
returns-in-Err-clause-none g c told is =
    let same : c.in-Err.end ≡ ends.Line = (cc) in
    let still : IsTrue (g.I.Source.state c.read_first.new.input).tells = grind
    (arith, c.in_ok-ask.ensures.told) in
    no_object (c.args.ahead.now ++ (g.I.Source.state c.args.input.now).left)
    (c.read_first.new.ahead ++ (g.I.Source.state c.read_first.new.input).left) c.in_ok-ask.ask c.in-Some.size
    c.in_ok-ask.ensures.ask c.in-Some.ensures (c.in_ok-ask.ensures.line told)
    (c.in-Err.ensures.none still (ap (λ (x : End). Err x) same))

pub returns-in_err-ask : goal.returns-in_err-ask
returns-in_err-ask g c = grind (arith, common_steps)
