use Rattle.slot_codec.proofs.EntryPlaceLaws.{log_step_local}
use Rattle.slot_codec.proofs.laws.an_entry_rests_on_its_own_bytes.Goals as goal

pub returns : goal.returns
returns c = log_step_local
