use Rattle.std.proofs.Common.{◌≡◌, ◌≤◌, ◌-◌, [], length}
use Rattle.std.specs.Prelude.{replicate, vec_capacity}
use Rattle.circular_buffer.specs.Buffer.{buffer}
use Rattle.desk_queues.proofs.queues.Queues.new.Given as goal

-- each ring so far is empty, and has room
abbrev pub invariant-rings : goal.invariant-rings
invariant-rings l = (l.rings.items ≡ replicate (length l.rings.items) (buffer [] 1048576))
    × ((length l.rings.items ≤ 8) × (vec_capacity l.rings ≡ 8))

abbrev pub decreases-rings : goal.decreases-rings
decreases-rings l = 8 - length l.rings.items
