use Rattle.slot_codec.proofs.EntryLaws.{entry_head_exact}
use Rattle.slot_codec.proofs.laws.an_entry_head_has_one_spelling.Goals as goal

pub returns : goal.returns
returns c = entry_head_exact
