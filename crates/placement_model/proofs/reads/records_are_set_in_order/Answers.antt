use Rattle.placement_model.proofs.OrderLaws.{set_more, set_none}
use Rattle.placement_model.proofs.reads.records_are_set_in_order.Goals as goal

pub returns-clause-none : goal.returns-clause-none
returns-clause-none c = set_none

pub returns-clause-more : goal.returns-clause-more
returns-clause-more c = set_more
