-- The laws are proved over plain values.
use Rattle.desk_model.proofs.TextLaws.{event_one, script_one}
use Rattle.desk_model.proofs.laws.a_text_is_one_event.Goals as goal

pub returns-clause-one : goal.returns-clause-one
returns-clause-one c = event_one

pub returns-clause-script : goal.returns-clause-script
returns-clause-script c = script_one
