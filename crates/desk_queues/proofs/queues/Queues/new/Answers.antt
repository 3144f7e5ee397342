-- Nothing waits yet.
use Rattle.std.proofs.Common.{arith}
use Rattle.std.specs.Prelude.{length}
use Rattle.desk_queues.specs.Queues.{no_requests}
use Rattle.desk_queues.proofs.QueueLaws.{new_queues}
use Rattle.desk_queues.proofs.queues.Queues.new.Goals as goal

pub invariant_of-result : goal.invariant_of-result
invariant_of-result c =
    let rings = c.rings.rings.items in
    let both = new_queues rings (length rings) c.rings.invariant.0
    (omega (arith, c.rings.invariant.1.0, c.rings-test.false, c.len.ensures)) in
    record { room = both.0; requests = no_requests; held = both.1 }
