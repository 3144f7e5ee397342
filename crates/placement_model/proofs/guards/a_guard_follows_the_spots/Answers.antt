use Rattle.placement_model.proofs.GuardLaws.{freed_by_move, freed_by_remove, freed_few, freed_most, freed_nothing, freed_past_move, freed_past_new, freed_past_remove}
use Rattle.placement_model.proofs.guards.a_guard_follows_the_spots.Goals as goal

pub returns-clause-moved_off : goal.returns-clause-moved_off
returns-clause-moved_off c = freed_by_move

pub returns-clause-moved : goal.returns-clause-moved
returns-clause-moved c = freed_past_move

pub returns-clause-new : goal.returns-clause-new
returns-clause-new c = freed_past_new

pub returns-clause-gone_off : goal.returns-clause-gone_off
returns-clause-gone_off c = freed_by_remove

pub returns-clause-gone : goal.returns-clause-gone
returns-clause-gone c = freed_past_remove

pub returns-clause-checkpoint : goal.returns-clause-checkpoint
returns-clause-checkpoint c = freed_nothing

pub returns-clause-few : goal.returns-clause-few
returns-clause-few c = freed_few

pub returns-clause-most : goal.returns-clause-most
returns-clause-most c = freed_most
