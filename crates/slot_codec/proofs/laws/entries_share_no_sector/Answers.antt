use Rattle.slot_codec.proofs.EntryPlaceLaws.{next_apart, next_multiple}
use Rattle.slot_codec.proofs.laws.entries_share_no_sector.Goals as goal

pub returns : goal.returns
returns c = record { next = next_multiple; apart = next_apart }
