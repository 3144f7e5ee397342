-- The law is proved over plain values.
use Rattle.desk_model.proofs.OrderLaws.{session_told}
use Rattle.desk_model.proofs.laws.a_session_is_told_in_order.Goals as goal

pub returns : goal.returns
returns c = session_told
