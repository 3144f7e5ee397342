use Rattle.store_costs.proofs.SessionLaws.{both_books_paid, call_has_paid, formatted_has_paid, formatted_pays, in_all, opened_again, opened_has_paid, session_pays, sessions_add}
use Rattle.store_costs.proofs.laws.a_session_of_a_store_is_paid_for.Goals as goal

pub returns-clause-opens : goal.returns-clause-opens
returns-clause-opens g c = opened_has_paid

pub returns-clause-new : goal.returns-clause-new
returns-clause-new g c = formatted_has_paid

pub returns-clause-call : goal.returns-clause-call
returns-clause-call g c C cost first old new is = call_has_paid g.D.Disk.state C cost is first old new

pub returns-clause-session : goal.returns-clause-session
returns-clause-session g c C cost s between t is = session_pays g.D.Disk.state C cost is s between t

pub returns-clause-books : goal.returns-clause-books
returns-clause-books g c = both_books_paid

pub returns-clause-in_all : goal.returns-clause-in_all
returns-clause-in_all g c = in_all

pub returns-clause-later : goal.returns-clause-later
returns-clause-later g c = sessions_add

pub returns-clause-again : goal.returns-clause-again
returns-clause-again g c = opened_again

pub returns-clause-formatted : goal.returns-clause-formatted
returns-clause-formatted g c C cost k names s file now between t is =
    formatted_pays g.D.Disk.state C cost is k names s file now between t
