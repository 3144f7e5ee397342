use Rattle.cost_laws.proofs.SessionLaws.{session_begins, session_keeps, session_goes_back, session_changes, session_flushes, session_in_all}
use Rattle.cost_laws.proofs.laws.each_request_is_paid_for.Goals as goal

pub returns-clause-begins : goal.returns-clause-begins
returns-clause-begins c = session_begins

pub returns-clause-keep : goal.returns-clause-keep
returns-clause-keep c = session_keeps

pub returns-clause-back : goal.returns-clause-back
returns-clause-back c = session_goes_back

pub returns-clause-quiet : goal.returns-clause-quiet
returns-clause-quiet c = session_changes

pub returns-clause-flush : goal.returns-clause-flush
returns-clause-flush c = session_flushes

pub returns-clause-in_all : goal.returns-clause-in_all
returns-clause-in_all c = session_in_all
