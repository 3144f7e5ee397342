use Rattle.std.proofs.Common.{◌≡◌, ◌++◌, rules}
use Rattle.std.specs.Prelude.{None}
use Rattle.load_stream.proofs.NextLaws.{no_put, no_request}
use Rattle.load_stream.proofs.next.next_put.Goals as goal

pub returns-in-Some-clause-none : goal.returns-in-Some-clause-none
returns-in-Some-clause-none g c told is =
    let none : c.put_named.result ≡ None = cc in
    no_put c.in-Some.ask (c.args.ahead.now ++ (g.I.Source.state c.args.input.now).left)
    (c.next_ask.new.ahead ++ (g.I.Source.state c.next_ask.new.input).left) (search rules) (search rules)
    (c.put_named.ensures.none (search rules))

pub returns-in-None-clause-none : goal.returns-in-None-clause-none
returns-in-None-clause-none g c told is =
    no_request (c.args.ahead.now ++ (g.I.Source.state c.args.input.now).left)
    (c.in_ok-found.ensures.none told (search rules))
