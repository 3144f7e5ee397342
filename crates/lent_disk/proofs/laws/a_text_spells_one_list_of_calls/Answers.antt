use Rattle.lent_disk.proofs.SpellingLaws.{front_is_oldest, one_list}
use Rattle.lent_disk.proofs.laws.a_text_spells_one_list_of_calls.Goals as goal

pub returns-clause-one : goal.returns-clause-one
returns-clause-one c = one_list

pub returns-clause-front : goal.returns-clause-front
returns-clause-front c = front_is_oldest
