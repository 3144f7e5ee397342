use Rattle.std.proofs.Common.{◌++◌, rules}
use Rattle.load_stream.proofs.FillLaws.{stops_due}
use Rattle.load_stream.proofs.fill.load_all.Goals as goal

pub returns-in_err-load_objects-clause-stops : goal.returns-in_err-load_objects-clause-stops
returns-in_err-load_objects-clause-stops g c told n is =
    stops_due c.args.plan.now (c.args.ahead.now ++ (g.I.Source.state c.args.input.now).left) n
    (c.in_err-load_objects.ensures.stops told n (search rules))
