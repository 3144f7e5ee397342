use Rattle.flush_model.proofs.RunLaws.{lays_once, lifts_or_packs_once}
use Rattle.flush_model.proofs.laws.objects_move_twice_at_most.Goals as goal

pub returns-clause-lift_or_pack : goal.returns-clause-lift_or_pack
returns-clause-lift_or_pack c = lifts_or_packs_once

pub returns-clause-lay : goal.returns-clause-lay
returns-clause-lay c = lays_once
