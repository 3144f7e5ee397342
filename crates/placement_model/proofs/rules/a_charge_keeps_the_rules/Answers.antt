use Rattle.placement_model.proofs.ChangeLaws.{charged_below}
use Rattle.placement_model.proofs.rules.a_charge_keeps_the_rules.Goals as goal

pub returns : goal.returns
returns c b t size j filled some found keeps = charged_below b t filled size j some found keeps
