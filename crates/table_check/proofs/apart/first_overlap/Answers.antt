use Rattle.std.proofs.Common.{arith, refl}
use Rattle.table_check.proofs.NextLaws.{apart_by_place}
use Rattle.table_check.proofs.OverlapLaws.{apart_more}
use Rattle.table_check.proofs.apart.first_overlap.Goals as goal

pub returns-then-end_before_next-clause-none : goal.returns-then-end_before_next-clause-none
returns-then-end_before_next-clause-none c =
    λ _. apart_by_place c.args.table.now (c.end_before_next.ensures c.if-end_before_next.true)
    c.count-high.ensures.table

pub returns-clause-first : goal.returns-clause-first
returns-clause-first c = record {
  here = omega arith;
  before = c.halves.invariant.apart;
  broken = λ holds. c.halves.invariant.overlap (apart_more c.args.table.now c.halves.low c.halves.high
      (omega arith) c.halves.invariant.apart holds);
}
