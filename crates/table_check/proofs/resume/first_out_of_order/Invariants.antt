use Rattle.table_check.proofs.SuffixLaws.{OrderSoFar}
use Rattle.table_check.proofs.resume.first_out_of_order.Given as goal

abbrev pub invariant-records : goal.invariant-records
invariant-records l = OrderSoFar l.table l.frame l.order l.at l.least l.greatest
