use Rattle.segment_layout.proofs.SettleLaws.{EmptiedUpTo}
use Rattle.plain_layout.proofs.settle.used_from.Given as goal

abbrev pub invariant-rows : goal.invariant-rows
invariant-rows l = EmptiedUpTo l.b l.j l.initial.used l.used
