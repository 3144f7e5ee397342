use Rattle.placement_model.proofs.LaidLaws.{valid_numbered}
use Rattle.placement_model.proofs.rules.rules_leave_the_sequence_free.Goals as goal

pub returns : goal.returns
returns c = valid_numbered
