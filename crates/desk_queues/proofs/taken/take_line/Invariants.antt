use Rattle.std.proofs.Common.{◌≡◌, ◌++◌, length}
use Rattle.desk_queues.specs.Taken.{Lacks}
use Rattle.desk_queues.proofs.taken.take_line.Given as goal

-- what was taken has no newline, and stood in front of what is left
abbrev pub invariant-bytes : goal.invariant-bytes
invariant-bytes l = (l.line.items ++ l.ring.items ≡ l.fn.ring.items) × (Lacks 10 l.line.items
    × (l.ring.capacity ≡ l.fn.ring.capacity))

abbrev pub decreases-bytes : goal.decreases-bytes
decreases-bytes l = length l.ring.items
