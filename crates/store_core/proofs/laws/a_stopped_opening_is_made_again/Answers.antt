use Rattle.store_model.proofs.OpeningLaws.{alike_found, alike_itself, opened_again}
use Rattle.store_core.proofs.laws.a_stopped_opening_is_made_again.Goals as goal

pub returns-clause-state : goal.returns-clause-state
returns-clause-state c = opened_again

pub returns-clause-alone : goal.returns-clause-alone
returns-clause-alone c = alike_itself

pub returns-clause-store : goal.returns-clause-store
returns-clause-store c = alike_found
