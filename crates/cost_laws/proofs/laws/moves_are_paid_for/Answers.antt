use Rattle.cost_laws.proofs.CheapLaws.{cheap}
use Rattle.cost_laws.proofs.PaidLaws.{cheap_call}
use Rattle.cost_laws.proofs.laws.moves_are_paid_for.Goals as goal

pub returns-clause-by_rows : goal.returns-clause-by_rows
returns-clause-by_rows c = cheap

pub returns-clause-by_ledger : goal.returns-clause-by_ledger
returns-clause-by_ledger c = cheap_call
