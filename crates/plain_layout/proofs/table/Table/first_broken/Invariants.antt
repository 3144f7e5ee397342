use Rattle.std.proofs.Common.{◌<◌}
use Rattle.table_rules.specs.Rules.{Rule, number_of, AllHold}
use Rattle.plain_layout.specs.Plain.{placed}
use Rattle.plain_layout.proofs.table.Table.first_broken.Given as goal

abbrev pub invariant-rules : goal.invariant-rules
invariant-rules l = (rule : Rule) → number_of rule < l.number → AllHold rule (placed l.self)
