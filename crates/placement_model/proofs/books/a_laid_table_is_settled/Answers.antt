use Rattle.placement_model.proofs.SettledBookLaws.{settled_book, settled_valid}
use Rattle.placement_model.proofs.SettledLaws.{settled_places}
use Rattle.placement_model.proofs.books.a_laid_table_is_settled.Goals as goal

pub returns-clause-places : goal.returns-clause-places
returns-clause-places c = settled_places

pub returns-clause-valid : goal.returns-clause-valid
returns-clause-valid c = settled_valid

pub returns-clause-book : goal.returns-clause-book
returns-clause-book c = settled_book
