use Rattle.table_rules.proofs.WiderLaws.{no_more_classes}
use Rattle.table_rules.proofs.laws.no_more_classes.Goals as goal

pub returns : goal.returns
returns c = no_more_classes
