use Rattle.sliced_laws.proofs.SlicedLaws.{few_steps, sliced_change, sliced_step}
use Rattle.sliced_laws.proofs.laws.a_flush_by_steps_comes_to_one_call.Goals as goal

pub returns-clause-change : goal.returns-clause-change
returns-clause-change g k C c old new before now result x =
    sliced_change g.D.Disk.state c old new before now result x

pub returns-clause-step : goal.returns-clause-step
returns-clause-step g k C c old new before now x told = sliced_step g.D.Disk.state c old new before now x told

pub returns-clause-steps : goal.returns-clause-steps
returns-clause-steps g k C c old new before now result x =
    few_steps g.D.Disk.state c old new before now result x
