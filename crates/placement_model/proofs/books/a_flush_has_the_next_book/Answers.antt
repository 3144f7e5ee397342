use Rattle.placement_model.proofs.NextBookLaws.{suffix_book}
use Rattle.placement_model.proofs.books.a_flush_has_the_next_book.Goals as goal

pub returns : goal.returns
returns c = suffix_book
