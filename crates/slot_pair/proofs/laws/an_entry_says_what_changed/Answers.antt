use Rattle.slot_pair.proofs.EntrySaysLaws.{says_entry, says_table}
use Rattle.slot_pair.proofs.laws.an_entry_says_what_changed.Goals as goal

pub returns : goal.returns
returns c = record { entry = says_entry; table = says_table }
