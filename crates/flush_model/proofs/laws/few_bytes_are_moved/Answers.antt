use Rattle.flush_model.proofs.RunLaws.{moves_few_bytes}
use Rattle.flush_model.proofs.laws.few_bytes_are_moved.Goals as goal

pub returns : goal.returns
returns c = moves_few_bytes
