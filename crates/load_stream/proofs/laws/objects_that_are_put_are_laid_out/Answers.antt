-- The laws are proved over plain values.
use Rattle.load_stream.proofs.LaidLaws.{laid_book_is, laid_out}
use Rattle.load_stream.proofs.PlaceLaws.{places_more, places_none}
use Rattle.load_stream.proofs.laws.objects_that_are_put_are_laid_out.Goals as goal

pub returns-clause-none : goal.returns-clause-none
returns-clause-none c = places_none

pub returns-clause-more : goal.returns-clause-more
returns-clause-more c = places_more

pub returns-clause-whole : goal.returns-clause-whole
returns-clause-whole c = laid_out

pub returns-clause-book : goal.returns-clause-book
returns-clause-book c = laid_book_is
