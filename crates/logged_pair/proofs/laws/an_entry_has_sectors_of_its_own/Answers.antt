use Rattle.logged_pair.proofs.NextLaws.{end_below, end_multiple}
use Rattle.logged_pair.proofs.laws.an_entry_has_sectors_of_its_own.Goals as goal

pub returns-clause-multiple : goal.returns-clause-multiple
returns-clause-multiple c = end_multiple

pub returns-clause-below : goal.returns-clause-below
returns-clause-below c = end_below
