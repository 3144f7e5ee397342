use Rattle.store_model.proofs.StoreLaws.{few_bytes}
use Rattle.store_core.proofs.laws.a_store_has_few_bytes.Goals as goal

pub returns : goal.returns
returns c classes s h = few_bytes s h
