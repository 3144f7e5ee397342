-- The law is proved over plain values.
use Rattle.ask_text.proofs.ReplyLaws.{first_line_one}
use Rattle.ask_text.proofs.laws.a_first_line_tells_once.Goals as goal

pub returns : goal.returns
returns c = first_line_one
