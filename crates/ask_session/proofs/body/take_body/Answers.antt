use Rattle.std.proofs.Common.{arith, IsTrue, ◌++◌}
use Rattle.ask_session.proofs.BodyLemmas.{dropped}
use Rattle.ask_session.proofs.body.take_body.Goals as goal

pub returns-then-size-gt-SIZE_MAX-clause-object : goal.returns-then-size-gt-SIZE_MAX-clause-object
returns-then-size-gt-SIZE_MAX-clause-object g c ok =
    dropped (IsTrue (g.I.Source.state c.args.input.now).tells)
    (c.args.ahead.now ++ (g.I.Source.state c.args.input.now).left)
    (c.skip.new.ahead
    ++ (g.I.Source.state c.skip.new.input).left) c.args.body.now.items c.args.size (omega arith)
    (λ told. c.skip.ensures.dropped told ok)
