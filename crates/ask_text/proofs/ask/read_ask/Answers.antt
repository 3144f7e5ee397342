-- A line asks for one thing: for what is bare, or else for what it names.
use Rattle.std.proofs.Common.{ap}
use Rattle.std.specs.Prelude.{Ok}
use Rattle.ask_text.proofs.AskLaws.{asks_one, read_again}
use Rattle.ask_text.proofs.ask.read_ask.Goals as goal

pub returns-in-Some-clause-again : goal.returns-in-Some-clause-again
returns-in-Some-clause-again c = λ a asks.
    ap Ok (asks_one c.args.line.now c.in-Some.ask a c.in-Some.ensures asks)

pub returns-in-None-clause-again : goal.returns-in-None-clause-again
returns-in-None-clause-again c =
    read_again c.args.line.now c.named.result c.in-None.ensures c.named.ensures.read c.named.ensures.fault
