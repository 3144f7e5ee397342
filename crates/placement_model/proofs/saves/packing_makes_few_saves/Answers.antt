use Rattle.placement_model.proofs.SaveCountLaws.{meets_of_touch, pack_ends, pack_moves, pack_pays, pack_start, pays_for}
use Rattle.placement_model.proofs.saves.packing_makes_few_saves.Goals as goal

pub returns-clause-touch : goal.returns-clause-touch
returns-clause-touch c = meets_of_touch

pub returns-clause-pay : goal.returns-clause-pay
returns-clause-pay c = pays_for

pub returns-clause-start : goal.returns-clause-start
returns-clause-start c = pack_start

pub returns-clause-moves : goal.returns-clause-moves
returns-clause-moves c = pack_moves

pub returns-clause-pays : goal.returns-clause-pays
returns-clause-pays c = pack_pays

pub returns-clause-ends : goal.returns-clause-ends
returns-clause-ends c = pack_ends
