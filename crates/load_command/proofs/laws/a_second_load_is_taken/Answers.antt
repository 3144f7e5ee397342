-- The laws are proved over plain values.
use Rattle.load_command.proofs.TakenLaws.{opened_long, taken_again}
use Rattle.load_command.proofs.laws.a_second_load_is_taken.Goals as goal

pub returns-clause-bytes : goal.returns-clause-bytes
returns-clause-bytes c = opened_long

pub returns-clause-taken : goal.returns-clause-taken
returns-clause-taken c = taken_again
