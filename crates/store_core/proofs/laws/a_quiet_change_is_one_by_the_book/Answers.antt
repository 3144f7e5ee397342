use Rattle.store_model.proofs.QuietLaws.{quiet_by_book}
use Rattle.store_core.proofs.laws.a_quiet_change_is_one_by_the_book.Goals as goal

pub returns : goal.returns
returns c = quiet_by_book
