use Rattle.table_check.proofs.SuffixLaws.{GapsSoFar}
use Rattle.table_check.proofs.resume.first_narrow_gap.Given as goal

abbrev pub invariant-records : goal.invariant-records
invariant-records l = GapsSoFar l.table l.frame l.order l.left l.least l.above

abbrev pub decreases-records : goal.decreases-records
decreases-records l = l.left
