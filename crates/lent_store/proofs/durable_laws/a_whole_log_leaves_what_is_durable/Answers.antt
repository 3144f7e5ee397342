use Rattle.lent_store.proofs.DurableLaws.{leaves_made, leaves_opened}
use Rattle.lent_store.proofs.durable_laws.a_whole_log_leaves_what_is_durable.Goals as goal

pub returns-clause-call : goal.returns-clause-call
returns-clause-call c = leaves_made

pub returns-clause-opening : goal.returns-clause-opening
returns-clause-opening c = leaves_opened
