use Rattle.store_model.proofs.OpenedLaws.{tight_kept, tight_now}
use Rattle.store_core.proofs.laws.a_store_is_tight.Goals as goal

pub returns-clause-now : goal.returns-clause-now
returns-clause-now c classes s file h over = tight_now s file h over

pub returns-clause-kept : goal.returns-clause-kept
returns-clause-kept c classes s file h over = tight_kept s file h over
