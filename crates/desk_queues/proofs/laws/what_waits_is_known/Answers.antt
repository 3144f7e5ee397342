-- The law is proved over plain values.
use Rattle.desk_queues.proofs.KnownLaws.{holds_once}
use Rattle.desk_queues.proofs.laws.what_waits_is_known.Goals as goal

pub returns : goal.returns
returns c = holds_once
