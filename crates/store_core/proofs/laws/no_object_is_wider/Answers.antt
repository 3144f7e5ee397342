use Rattle.store_model.proofs.WidestLaws.{laid_narrow}
use Rattle.store_core.proofs.laws.no_object_is_wider.Goals as goal

pub returns-clause-now : goal.returns-clause-now
returns-clause-now c classes s name x h there =
    laid_narrow classes s.in_use.block.k s.book.caps s.book.grid s.now h.now name x there

pub returns-clause-kept : goal.returns-clause-kept
returns-clause-kept c classes s name x h there =
    laid_narrow classes s.in_use.block.k s.book.caps s.kept_book.grid s.kept h.kept name x there
