use Rattle.cost_laws.proofs.PaidLaws.{weighed_new, potential_none, paid_first, paid_next, weighed_next, paid_back}
use Rattle.cost_laws.proofs.laws.a_session_is_paid_for.Goals as goal

pub returns-clause-new : goal.returns-clause-new
returns-clause-new c = weighed_new

pub returns-clause-none : goal.returns-clause-none
returns-clause-none c = potential_none

pub returns-clause-first : goal.returns-clause-first
returns-clause-first c = paid_first

pub returns-clause-next : goal.returns-clause-next
returns-clause-next c = paid_next

pub returns-clause-weighed : goal.returns-clause-weighed
returns-clause-weighed c = weighed_next

pub returns-clause-back : goal.returns-clause-back
returns-clause-back c = paid_back
