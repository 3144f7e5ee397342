use Rattle.slot_codec.proofs.LogLaws.{entry_there}
use Rattle.slot_codec.proofs.laws.an_entry_is_there_or_not.Goals as goal

pub returns : goal.returns
returns c = entry_there
