-- The law is proved over plain values.
use Rattle.batch_model.proofs.FitLaws.{never_unfit}
use Rattle.batch_model.proofs.laws.a_batch_that_was_begun_fits.Goals as goal

pub returns : goal.returns
returns c = never_unfit
