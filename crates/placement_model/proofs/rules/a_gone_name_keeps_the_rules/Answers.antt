use Rattle.placement_model.proofs.GoneLaws.{gone_buffered, gone_payload}
use Rattle.placement_model.proofs.rules.a_gone_name_keeps_the_rules.Goals as goal

pub returns-clause-buffered : goal.returns-clause-buffered
returns-clause-buffered c classes size_max k len header b spots name s named there elsewhere keeps =
    gone_buffered classes size_max k len header b spots named name s there elsewhere keeps

pub returns-clause-payload : goal.returns-clause-payload
returns-clause-payload c classes size_max k len header b spots name s j named there filled some found keeps =
    gone_payload classes size_max k len header b spots named name s there filled some j found keeps
