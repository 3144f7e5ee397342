use Rattle.std.proofs.Common.{IsTrue, arith}
use Rattle.store_model.proofs.PutsLaws.{puts_after}
use Rattle.store_core.proofs.copy.put_both.Goals as goal

pub returns-clause-put : goal.returns-clause-put
returns-clause-put g c told =
    let still : IsTrue (g.O.Sink.state c.put_some.new.sink).tells =
    grind (arith, c.in_ok-put_some.ensures.cause.told) in
    puts_after c.args.head.now c.args.bytes.now (g.O.Sink.state c.args.sink.now).given
    (g.O.Sink.state c.put_some.new.sink).given (g.O.Sink.state c.put_some-2.new.sink).given
    c.put_some-2.result (c.in_ok-put_some.ensures.put told).all (c.put_some-2.ensures.put still)
