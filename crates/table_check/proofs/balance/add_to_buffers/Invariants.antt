use Rattle.std.proofs.Common.{[]}
use Rattle.table_check.specs.Live.{at_spot}
use Rattle.table_check.specs.Placed.{framed}
use Rattle.table_check.proofs.LiveLaws.{BuffersSoFar}
use Rattle.table_check.proofs.balance.add_to_buffers.Given as goal

abbrev pub invariant-buffers : goal.invariant-buffers
invariant-buffers l = BuffersSoFar (framed l.frame []) (at_spot l.s) l.j l.initial.buffers l.buffers
