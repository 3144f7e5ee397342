use Rattle.placement_model.proofs.BufferedLaws.{chosen-insert, chosen-remove}
use Rattle.placement_model.proofs.books.chosen_names_follow_the_spots.Goals as goal

pub returns-clause-put : goal.returns-clause-put
returns-clause-put c = chosen-insert

pub returns-clause-remove : goal.returns-clause-remove
returns-clause-remove c = chosen-remove
