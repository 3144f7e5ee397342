-- The laws are proved over plain values.
use Rattle.load_stream.proofs.AnswerLaws.{answers_once, dump_loads, few_first}
use Rattle.load_stream.proofs.laws.an_input_has_one_answer.Goals as goal

pub returns-clause-once : goal.returns-clause-once
returns-clause-once c = answers_once

pub returns-clause-dump : goal.returns-clause-dump
returns-clause-dump c = dump_loads

pub returns-clause-few : goal.returns-clause-few
returns-clause-few c = few_first
