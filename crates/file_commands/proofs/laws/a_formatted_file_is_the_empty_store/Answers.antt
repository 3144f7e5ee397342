use Rattle.dump_stream.proofs.FirstLaws.{first_opens}
use Rattle.file_commands.proofs.EmptyLaws.{none_opens}
use Rattle.file_commands.proofs.laws.a_formatted_file_is_the_empty_store.Goals as goal

pub returns-clause-opens : goal.returns-clause-opens
returns-clause-opens c = λ k names file first. first_opens k names file first

pub returns-clause-none : goal.returns-clause-none
returns-clause-none c = none_opens
