use Rattle.placement_model.proofs.MovedBookLaws.{moved_book}
use Rattle.placement_model.proofs.books.a_moved_object_keeps_the_book.Goals as goal

pub returns : goal.returns
returns c classes size_max k len header spots name s t named there same_size high =
    moved_book classes size_max k len header spots named name s t there same_size high
