-- The laws are proved over plain values.
use Rattle.batch_core.proofs.LeftLaws.{kept_fits, kept_is_batch}
use Rattle.batch_core.proofs.laws.a_batch_can_be_finished.Goals as goal

pub returns-clause-kept : goal.returns-clause-kept
returns-clause-kept c = kept_is_batch

pub returns-clause-fits : goal.returns-clause-fits
returns-clause-fits c = kept_fits
