use Rattle.lent_store.proofs.SlicedLaws.{made_change, made_steps}
use Rattle.lent_store.proofs.sliced_law.a_begin_and_its_steps_come_to_one_call.Goals as goal

pub returns-clause-change : goal.returns-clause-change
returns-clause-change c = made_change

pub returns-clause-steps : goal.returns-clause-steps
returns-clause-steps c = made_steps
