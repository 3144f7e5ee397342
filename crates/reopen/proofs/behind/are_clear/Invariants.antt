use Rattle.reopen.proofs.GapLaws.{ClearThrough}
use Rattle.reopen.proofs.behind.are_clear.Given as goal

abbrev pub invariant-bytes : goal.invariant-bytes
invariant-bytes l = ClearThrough l.gap l.at l.i
