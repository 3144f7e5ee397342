use Rattle.placement_model.proofs.rules.segments_rise.Goals as goal
use Rattle.segment_layout.proofs.ShapeLaws.{start_of-rises}

pub returns : goal.returns
returns c = start_of-rises
