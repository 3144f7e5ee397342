-- The law is proved over plain values.
use Rattle.ask_text.proofs.InputLaws.{text_one}
use Rattle.ask_text.proofs.laws.a_text_is_one_request.Goals as goal

pub returns : goal.returns
returns c = text_one
