use Rattle.std.proofs.Common.{arith}
use Rattle.std.proofs.lemmas.Grind.{common_steps}
use Rattle.slot_pair.proofs.find.pick.Goals as goal

pub returns-in_err-first : goal.returns-in_err-first
returns-in_err-first g c = grind (arith, common_steps)

pub returns-in_err-second : goal.returns-in_err-second
returns-in_err-second g c = grind (arith, common_steps)

pub returns-in_err-sequence : goal.returns-in_err-sequence
returns-in_err-sequence g c = grind (arith, common_steps)

pub returns-then-first-second : goal.returns-then-first-second
returns-then-first-second g c = grind (arith, common_steps)

pub returns-then-not-first_open-2 : goal.returns-then-not-first_open-2
returns-then-not-first_open-2 g c = grind (arith, common_steps)

pub returns-then-not-second_open : goal.returns-then-not-second_open
returns-then-not-second_open g c = grind (arith, common_steps)

pub returns-then-not-second_open-2 : goal.returns-then-not-second_open-2
returns-then-not-second_open-2 g c = grind (arith, common_steps)

pub returns-then-second-first : goal.returns-then-second-first
returns-then-second-first g c = grind (arith, common_steps)
