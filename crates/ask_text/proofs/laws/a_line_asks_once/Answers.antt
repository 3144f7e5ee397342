-- The laws are proved over plain values.
use Rattle.ask_text.proofs.AskLaws.{asks_one, line_short}
use Rattle.ask_text.proofs.laws.a_line_asks_once.Goals as goal

pub returns-clause-once : goal.returns-clause-once
returns-clause-once c = asks_one

pub returns-clause-short : goal.returns-clause-short
returns-clause-short c = line_short
