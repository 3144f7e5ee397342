use Rattle.std.proofs.Common.{arith}
use Rattle.std.proofs.lemmas.Grind.{common_steps}
use Rattle.slot_pair.proofs.find.formatted_block.Goals as goal

pub returns-in_err-length : goal.returns-in_err-length
returns-in_err-length g c = grind (arith, common_steps)

pub returns-then-length : goal.returns-then-length
returns-then-length g c = grind (arith, common_steps)

pub returns-in_err-block : goal.returns-in_err-block
returns-in_err-block g c = grind (arith, common_steps)

pub returns-then-length-head_len : goal.returns-then-length-head_len
returns-then-length-head_len g c = grind (arith, common_steps)

pub returns-in_err-gate_is_open : goal.returns-in_err-gate_is_open
returns-in_err-gate_is_open g c = grind (arith, common_steps)

pub returns-then-not-branch : goal.returns-then-not-branch
returns-then-not-branch g c = grind (arith, common_steps)

pub returns : goal.returns
returns g c = grind (arith, common_steps)
