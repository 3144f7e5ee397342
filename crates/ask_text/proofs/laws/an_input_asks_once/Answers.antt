-- The law is proved over plain values.
use Rattle.ask_text.proofs.InputLaws.{input_one}
use Rattle.ask_text.proofs.laws.an_input_asks_once.Goals as goal

pub returns : goal.returns
returns c = input_one
