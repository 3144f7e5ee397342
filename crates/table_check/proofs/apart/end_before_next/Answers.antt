use Rattle.std.proofs.Common.{arith}
use Rattle.table_check.proofs.NextLaws.{last_more, next_more}
use Rattle.table_check.proofs.apart.end_before_next.Goals as goal

pub ranks-preserved : goal.ranks-preserved
ranks-preserved c =
    let here = c.spot_by_place-s.ensures.there in
    record {
      near = next_more c.args.table.now.now c.ranks.rank c.spot_by_place-s.result here c.ranks.end
          c.ranks.invariant.near c.ranks.invariant.last (omega arith);
      last = last_more c.args.table.now.now c.ranks.rank c.spot_by_place-s.result here;
      low = omega (arith, c.spot_by_place-s.ensures.low, c.spot_by_place-s.ensures.small);
    }

pub returns : goal.returns
returns c = λ _ p a b low at also. c.ranks.invariant.near p a b (omega arith) at also
