use Rattle.placement_model.proofs.EnterLaws.{entered_below}
use Rattle.placement_model.proofs.rules.a_new_name_keeps_the_rules.Goals as goal

pub returns : goal.returns
returns c classes size_max k len header b spots name size j named filled is new some found small keeps stand =
    entered_below classes size_max k len header b spots named filled name is new size j some found small keeps
    stand
