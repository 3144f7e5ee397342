-- The law is proved over plain values.
use Rattle.desk_model.proofs.RunLaws.{desk_runs}
use Rattle.desk_model.proofs.laws.a_desk_is_one_run.Goals as goal

pub returns : goal.returns
returns c = desk_runs
