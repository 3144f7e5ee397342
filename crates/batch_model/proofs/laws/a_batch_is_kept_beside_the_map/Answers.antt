-- The laws are proved over plain values.
use Rattle.batch_model.proofs.KeptLaws.{kept_again, kept_changed}
use Rattle.batch_model.proofs.laws.a_batch_is_kept_beside_the_map.Goals as goal

pub returns-clause-again : goal.returns-clause-again
returns-clause-again c = kept_again

pub returns-clause-changed : goal.returns-clause-changed
returns-clause-changed c = kept_changed
