use Rattle.placement_model.proofs.MovedLaws.{moved_places}
use Rattle.placement_model.proofs.rules.a_moved_object_keeps_the_rules.Goals as goal

pub returns : goal.returns
returns c classes size_max k len header spots name s t named there same_size keeps some high apart =
    moved_places classes size_max k len header spots named name s t there same_size keeps some high apart
