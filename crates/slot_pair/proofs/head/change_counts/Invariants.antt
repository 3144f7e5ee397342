use Rattle.slot_pair.proofs.HeadLaws.{CountsSoFar}
use Rattle.slot_pair.proofs.head.change_counts.Given as goal

abbrev pub invariant-changes : goal.invariant-changes
invariant-changes g l = CountsSoFar l.counts (g.T.Delta.changes l.delta) l.number
