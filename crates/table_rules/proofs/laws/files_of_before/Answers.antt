use Rattle.std.proofs.Common.{arith}
use Rattle.table_rules.proofs.WiderLaws.{files_of_before, no_more_classes}
use Rattle.table_rules.proofs.laws.files_of_before.Goals as goal

pub returns-clause-same : goal.returns-clause-same
returns-clause-same c = files_of_before

pub returns-clause-zeros : goal.returns-clause-zeros
returns-clause-zeros c file m book = no_more_classes 21 1048576 file m book (omega arith) (omega arith)
