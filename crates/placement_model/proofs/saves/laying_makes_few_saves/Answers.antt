use Rattle.placement_model.proofs.SaveCountLaws.{lay_ends, lay_moves, lay_pays, lay_start, saves_in_all}
use Rattle.placement_model.proofs.saves.laying_makes_few_saves.Goals as goal

pub returns-clause-start : goal.returns-clause-start
returns-clause-start c = lay_start

pub returns-clause-moves : goal.returns-clause-moves
returns-clause-moves c = lay_moves

pub returns-clause-pays : goal.returns-clause-pays
returns-clause-pays c = lay_pays

pub returns-clause-ends : goal.returns-clause-ends
returns-clause-ends c = lay_ends

pub returns-clause-all : goal.returns-clause-all
returns-clause-all c = saves_in_all
