use Rattle.std.proofs.Common.{arith}
use Rattle.placement_model.proofs.rules.rule_11_is_none_of_a_settled_table.Goals as goal

pub returns : goal.returns
returns c t wall some kept = omega (arith, kept.wall, wall, some)
