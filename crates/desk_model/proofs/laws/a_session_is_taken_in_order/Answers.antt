-- The law is proved over plain values.
use Rattle.std.proofs.Common.{arith}
use Rattle.desk_model.proofs.OrderLaws.{session_taken}
use Rattle.desk_model.proofs.laws.a_session_is_taken_in_order.Goals as goal

pub returns : goal.returns
returns c = λ limits d es answers ds s many few. session_taken limits d es answers ds s (omega arith)
