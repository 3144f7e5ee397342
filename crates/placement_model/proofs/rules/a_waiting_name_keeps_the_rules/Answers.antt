use Rattle.placement_model.proofs.JoinLaws.{empty_below, pending_below}
use Rattle.placement_model.proofs.rules.a_waiting_name_keeps_the_rules.Goals as goal

pub returns-clause-pending : goal.returns-clause-pending
returns-clause-pending c = pending_below

pub returns-clause-empty : goal.returns-clause-empty
returns-clause-empty c = empty_below
