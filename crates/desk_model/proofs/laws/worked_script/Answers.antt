-- The laws are proved over plain values.
use Rattle.desk_model.proofs.WorkedLaws.{worked_desks, worked_input, worked_output, worked_plays}
use Rattle.desk_model.proofs.laws.worked_script.Goals as goal

pub returns-clause-input : goal.returns-clause-input
returns-clause-input c = worked_input

pub returns-clause-plays : goal.returns-clause-plays
returns-clause-plays c = (worked_desks, (worked_plays, worked_output))
